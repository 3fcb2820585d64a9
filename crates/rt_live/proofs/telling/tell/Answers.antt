use Rattle.std.proofs.Common.{◌≡◌, ◌∙◌, ℕ, IfOk, List, ap, arith, length, string_bytes, subst, sym}
use Rattle.std.proofs.lemmas.List.{length-map}
use Rattle.std.proofs.lemmas.List.FromFn.{length-range_with_len}
use Rattle.std.specs.List.{range_with_len}
use Rattle.rt_live.proofs.Rightly.{each_first, has_run_if}
use Rattle.rt_live.proofs.telling.tell.Goals as goal
use Rattle.rt_live.specs.Printed.{printed}
use Rattle.rt_live.specs.Run.{journal_of}
use Rattle.rt_live_end.specs.Ends.{end_in, ends_in}
use Rattle.rt_live_join.specs.Joined.{HasJoined, joined_now}
use Rattle.rt_live_join.specs.Left.{fronts_by}
use Rattle.rt_live_names.specs.Fronts.{Fronts}
use Rattle.rt_model.specs.Starting.{Starting}
use Rattle.rt_model.specs.declared.node.Seen.{Seen}
use Rattle.rt_ground.specs.StoreCalls.{seen_by}
use Rattle.rt_store.specs.Contents.{starting_of}

count_ends : (partitions : ℕ) (h : List Seen) → length (ends_in partitions h) ≡ partitions
count_ends partitions h = length-map (range_with_len 0 partitions) (end_in h) ∙ length-range_with_len 0 partitions

pub told-requires : goal.told-requires
told-requires g c = record {
  few = let many = ap (λ xs. length xs) c.in_ok-ends.ensures ∙ count_ends c.args.partitions c.deref.result.now in omega (arith, many, c.ranges.partitions.fits);
}

pub returns : goal.returns
returns g c =
    let n = g.K.Cluster.names in
    let joined = joined_now c.args.joined in
    let ends = c.in_ok-ends.ends.items in
    let starts : starting_of n.setup ≡ g.J.Naming.starting = c.requires.ground.0 in
    let has = subst (λ (s : Starting). HasJoined n s c.args.journal joined) (sym starts) c.requires.joined in
    let same : fronts_by c.whole_history.new.caller ≡ joined.met = c.in_ok-writes.ensures.same in
    let writes : c.in_ok-writes.writes.items ≡ seen_by (starting_of n.setup) joined.met.store =
    c.in_ok-writes.ensures.whole ∙ ap (λ (s : Starting). seen_by s joined.met.store) (sym starts) in
    let committed = c.in_ok-ends.ensures
    ∙ ap (λ (h : List Seen). ends_in c.args.partitions h) (c.deref.ensures.value ∙ writes)
    ∙ ap (λ (p : ℕ). ends_in p (seen_by (starting_of n.setup) joined.met.store)) c.requires.partitions in
    let lengths = sym c.deref-2.ensures.value ∙ c.are_same.ensures c.if-not-are_same.false ∙ c.requires.lengths in
    let all = c.if-not-answers_all.false in
    let answers = sym c.len.ensures ∙ c.answers_all.ensures.answers all ∙ c.requires.queries in
    let first = each_first n c.args.journal joined (λ shown. sym c.len-else-not-are_same.ensures ∙ c.answers_all.ensures.mids all shown ∙ c.requires.queries) in
    let drained = sym c.was_drained.ensures ∙ c.if-not-was_drained.false in
    let text_is : printed joined.answers ends (journal_of c.args.journal c.in_ok-writes.writes.items (record joined { met = fronts_by c.whole_history.new.caller }))
    ≡ printed joined.answers ends (journal_of c.args.journal (seen_by (starting_of n.setup) joined.met.store) joined) =
    ap (λ (f : Fronts). printed joined.answers ends (journal_of c.args.journal c.in_ok-writes.writes.items (record joined { met = f }))) same
    ∙ ap (λ (h : List Seen). printed joined.answers ends (journal_of c.args.journal h joined)) writes in
    has_run_if n c.args.journal joined has ends committed lengths answers first drained c.told.result (λ ran. ran.ends.items) (λ ran. fronts_by ran.caller)
    (λ ran. string_bytes ran.text) c.told.ensures.ends
    (subst (λ (f : Fronts). IfOk c.told.result (λ ran. fronts_by ran.caller ≡ f)) same c.told.ensures.caller)
    (subst (λ (t : List ℕ). IfOk c.told.result (λ ran. string_bytes ran.text ≡ t)) text_is c.told.ensures.text)
