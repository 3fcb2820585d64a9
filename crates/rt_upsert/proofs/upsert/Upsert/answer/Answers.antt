use Rattle.std.proofs.Common.{rules, arith, ◌≡◌, ◌+◌, ◌<◌, [], ◌∷◌, List, map, filter, not, length, ap, sym, subst}
use Rattle.std.specs.Map.Iter.{deref_pair}
use Rattle.std.proofs.lemmas.List.{length-map, map-append}
use Rattle.std.proofs.lemmas.Map.Iter.{btree_map_turn, iter_end}
use Rattle.rt_model.specs.Aggregate.{taken}
use Rattle.rt_agg.specs.Grouped.{Holds}
use Rattle.rt_upsert.specs.Latest.{is_hidden, rows_in}
use Rattle.rt_upsert.specs.Placed.{Placed, PlacedRows, IsQueryOver}
use Rattle.rt_upsert.proofs.Answering.{answered, holds_more, held_fits}
use Rattle.rt_upsert.proofs.Changing.{Entries}
use Rattle.rt_upsert.proofs.Counting.{place_total}
use Rattle.rt_upsert.proofs.Hiding.{is_held_at, latest_in}
use Rattle.rt_upsert.proofs.upsert.Upsert.answer.Goals as goal

pub loop-place-preserved : goal.loop-place-preserved
loop-place-preserved c =
    let into = c.into_iter-place-iterator.ensures.into_iter_gives in
    let turn = btree_map_turn deref_pair c.loop-place.yielded _ _ _ _ (c.in-Some.place, c.in-Some.held) c.loop-place.yielded_by c.in-Some.is c.next.ensures.steps place_total c.self.inside.held.rows into.0 into.5 in
    let before : Entries = map deref_pair c.loop-place.yielded in
    let few : length before + 1 < 9223372036854775808 = omega (arith, turn.0, into.1, length-map c.loop-place.yielded deref_pair) in
    let right = is_held_at c.self.inside.kinds c.self.inside.keys c.self.inside.compare c.self.inside.numbers.keys c.self.inside.held.rows c.self.inside.held.ranks c.self.invariant c.in-Some.place.now c.in-Some.held.now turn.1 in
    subst (λ (es : Entries). Holds c.args.query.now (answered c.args.self.now c.args.query.now es) c.add_if.new.groups) (sym (map-append deref_pair c.loop-place.yielded ((c.in-Some.place, c.in-Some.held) ∷ [])))
    (holds_more c.args.self.now c.args.query.now before (c.in-Some.place.now, c.in-Some.held.now) c.is_latest-is_shown.result c.loop-place.groups c.add_if.new.groups
    (latest_in c.self.inside.kinds c.self.inside.keys c.self.inside.compare c.self.inside.numbers.keys c.self.inside.held.rows c.self.inside.held.ranks c.self.invariant c.args.self.now c.self.view_is
    c.in-Some.place.now c.in-Some.held.now turn.1 c.is_latest-is_shown.result c.is_latest-is_shown.ensures)
    (held_fits c.self.inside.kinds c.args.query.now c.in-Some.held.now.row (subst (λ (held : PlacedRows). IsQueryOver held.kinds c.args.query.now) (sym c.self.view_is) c.requires) right.kinds)
    few c.loop-place.invariant c.in_ok-add_if.ensures)

pub returns : goal.returns
returns c =
    let all : map deref_pair c.loop-place.yielded ≡ c.self.inside.held.rows.entries = search (rules, iter_end) in
    subst (λ (rows : List Placed). Holds c.args.query.now (taken c.args.query.now (rows_in (filter (λ x. not (is_hidden c.args.self.now x)) rows))) c.loop-place.groups)
    (ap (λ (held : PlacedRows). held.rows) c.self.view_is)
    (subst (λ (es : Entries). Holds c.args.query.now (answered c.args.self.now c.args.query.now es) c.loop-place.groups) all c.loop-place.invariant)
