use Rattle.std.proofs.Common.{◌≡◌, ◌<◌, ◌+◌, ◌∙◌, List, [], ap, get_or, length, map, refl, slice_get, subst, sym, arith}
use Rattle.std.proofs.lemmas.List.{append-nil, length-map, length_push}
use Rattle.std.proofs.lemmas.Option.{slice_get-get_or, slice_get_within}
use Rattle.atomic_table.specs.Seated.{TableId}
use Rattle.rt_lists.specs.Members.{IsFront}
use Rattle.rt_link.specs.Ends.{Sending, Taking}
use Rattle.rt_live_links.specs.Gathered.{TookRightly, gathering}
use Rattle.rt_live_links.proofs.Places.{all_found, fits_last, holds_from, onto_more, replaced}
use Rattle.rt_live_links.proofs.gathering.gather_row.Goals as goal

pub loop-post-init : goal.loop-post-init
loop-post-init c =
    let inboxes = c.args.inboxes.now in
    let row = c.args.row.items in
    let lines : List Sending → List TableId = λ posts. map (λ p. p.line) posts in
    let same : length row ≡ length inboxes =
    sym (length-map row (λ p. p.line)) ∙ ap length c.requires ∙ length-map inboxes (λ i. i.line) in
    record {
      lines = ([], sym c.requires ∙ sym (append-nil (lines row)));
      inboxes = refl;
      rightly = λ k inbox past at. absurd (omega (arith, same, past, slice_get_within inboxes k inbox at));
    }

pub gather-requires : goal.gather-requires
gather-requires c =
    let inboxes = c.loop-post.inboxes in
    let n = c.len.result in
    let last =
    fits_last (λ (p : Sending). p.line) (λ (i : Taking). i.line) c.loop-post.row.items c.pop.new.self.items
    c.in-Some.post inboxes c.in-Some.ensures.items c.loop-post.invariant.lines in
    let place : n ≡ length c.pop.new.self.items = omega (arith, c.len.ensures, c.pop.new.self.ok.0) in
    last.same (get_or inboxes n c.index-inboxes-len.result)
    (ap (λ k. slice_get inboxes k) (sym place)
    ∙ slice_get-get_or inboxes n c.index-inboxes-len.result (omega (arith, place, last.within)))

pub loop-post-preserved : goal.loop-post-preserved
loop-post-preserved c =
    let inboxes = c.loop-post.inboxes in
    let left = c.pop.new.self.items in
    let post = c.in-Some.post in
    let n = c.len.result in
    let was = get_or inboxes n c.index-inboxes-len.result in
    let now = c.gather.new.self in
    let popped = c.in-Some.ensures.items in
    let place : n ≡ length left = omega (arith, c.len.ensures, c.pop.new.self.ok.0) in
    let one : length c.loop-post.row.items ≡ length left + 1 = ap length popped ∙ length_push left post in
    let last =
    fits_last (λ (p : Sending). p.line) (λ (i : Taking). i.line) c.loop-post.row.items left post inboxes popped
    c.loop-post.invariant.lines in
    let within : n < length inboxes = omega (arith, place, last.within) in
    let at = slice_get-get_or inboxes n c.index-inboxes-len.result within in
    record {
      lines = subst (λ (l : List TableId). IsFront (map (λ p. p.line) left) l)
          (sym (replaced (λ (i : Taking). i.line) inboxes n was now at
          (ap (λ (i : Taking). i.line) c.gather.ensures.new)))
          last.front;
      inboxes = onto_more gathering inboxes c.loop-post.row.items left n was now post popped place at
          c.gather.ensures.new
          ∙ c.loop-post.invariant.inboxes;
      rightly = λ k inbox past there.
          holds_from TookRightly inboxes n now
          (record { order = c.gather.ensures.order; of_senders = c.gather.ensures.senders })
          (λ j i le found. c.loop-post.invariant.rightly j i (omega (arith, one, place, le)) found)
          k inbox (omega (arith, place, past)) there;
    }

pub returns-clause-rightly : goal.returns-clause-rightly
returns-clause-rightly c =
    all_found TookRightly c.loop-post.inboxes
    (λ k inbox at. c.loop-post.invariant.rightly k inbox
    (omega (arith, c.in_default.ensures.cases.0, c.loop-post.row.ok.0)) at)
