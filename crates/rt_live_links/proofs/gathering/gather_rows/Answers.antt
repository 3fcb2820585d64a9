use Rattle.std.proofs.Common.{◌≡◌, ◌∙◌, List, ◌∷◌, ap, sym, length, map, refl, arith}
use Rattle.std.specs.Vec.{with_items}
use Rattle.std.specs.Vec.Iter.{into_iter_items}
use Rattle.std.proofs.lemmas.List.{with_items_is}
use Rattle.std.proofs.lemmas.List.Elements.{All-rest, All-same, All-weaker}
use Rattle.rt_link.specs.Ends.{Sending, Taking}
use Rattle.rt_live_links.specs.Gathered.{TookRightly, gathering}
use Rattle.rt_live_links.specs.Rows.{onto, onto_all}
use Rattle.rt_live_links.proofs.Places.{onto_keeps}
use Rattle.rt_live_links.proofs.gathering.gather_rows.Goals as goal

pub loop-row-preserved : goal.loop-row-preserved
loop-row-preserved c =
    let at = c.loop-row in
    let inboxes = at.inboxes.items in
    let row = c.in-Some.row in
    let rest = into_iter_items c.next.new.self in
    let steps : into_iter_items at.row-iterator ≡ row ∷ rest = c.in-Some.ensures.steps.0 in
    let lent = c.deref_mut.ensures.value in
    let new = (with_items at.inboxes c.gather_row.new.inboxes).items in
    let back : new ≡ c.gather_row.new.inboxes =
    with_items_is at.inboxes c.gather_row.new.inboxes (c.gather_row.auto.inboxes ∙ c.deref_mut.ensures.len) in
    let gathered : new ≡ onto gathering inboxes row =
    back
    ∙ c.gather_row.ensures.inboxes
    ∙ ap (λ l. onto gathering l c.into_vec.result.items) lent
    ∙ ap (λ r. onto gathering inboxes r) c.into_vec.ensures in
    let kept : map (λ (i : Taking). i.line) new ≡ map (λ (i : Taking). i.line) inboxes =
    ap (λ l. map (λ (i : Taking). i.line) l) gathered
    ∙ onto_keeps gathering (λ (i : Taking). i.line) (λ i p. refl) inboxes row in
    record {
      left = omega (arith, at.invariant.left, c.in-Some.ensures.steps.1, ap length steps);
      lines = All-weaker (λ (r : List Sending). map (λ p. p.line) r ≡ map (λ i. i.line) inboxes)
          (λ r. map (λ p. p.line) r ≡ map (λ i. i.line) new) (λ r e. e ∙ sym kept) rest
          (All-rest (λ (r : List Sending). map (λ p. p.line) r ≡ map (λ i. i.line) inboxes) row rest _ steps
          at.invariant.lines);
      inboxes = ap (λ l. onto_all gathering l rest) gathered
          ∙ ap (λ rows. onto_all gathering inboxes rows) (sym steps)
          ∙ at.invariant.inboxes;
      rightly = λ lt. All-same TookRightly new c.gather_row.new.inboxes back c.gather_row.ensures.rightly;
    }

pub returns-clause-rightly : goal.returns-clause-rightly
returns-clause-rightly c =
    c.loop-row.invariant.rightly
    (omega (arith, c.requires.some, c.in-None.ensures.steps.0, c.loop-row.invariant.left))
