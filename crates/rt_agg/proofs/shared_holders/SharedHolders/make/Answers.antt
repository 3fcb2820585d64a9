use Rattle.std.proofs.Common.{◌∙◌, ℕ, List, length, map, subst}
use Rattle.rt_model.specs.declared.query_parts.Item.{Item}
use Rattle.rt_agg.specs.ResultHolder.{item_of}
use Rattle.rt_agg.specs.Sharing.{AreFirsts, AreHeld}
use Rattle.rt_agg.proofs.Spreading.{held_items, held_shared, items_shown}
use Rattle.rt_agg.proofs.shared_holders.SharedHolders.make.Goals as goal

pub invariant_of-result : goal.invariant_of-result
invariant_of-result c =
    let all = c.in_ok-all.all in
    let places = c.in_ok-places.places in
    let held = map item_of c.in_ok-held.held in
    held_shared all places held (subst (λ (xs : List Item). AreFirsts xs places) c.as_slice.ensures c.in_ok-places.ensures)
    (subst (λ (xs : List Item). AreHeld xs places (length xs) held) c.as_slice-2.ensures
    (subst (λ (ps : List ℕ). AreHeld c.as_slice-2.result.now ps (length c.as_slice-2.result.now) held) c.as_slice-3.ensures c.in_ok-held.ensures))

pub returns : goal.returns
returns c =
    let all = c.in_ok-all.all in
    let places = c.in_ok-places.places in
    let held = map item_of c.in_ok-held.held in
    items_shown places c.in_ok-held.held
    ∙ held_items all places held (subst (λ (xs : List Item). AreFirsts xs places) c.as_slice.ensures c.in_ok-places.ensures)
    (subst (λ (xs : List Item). AreHeld xs places (length xs) held) c.as_slice-2.ensures
    (subst (λ (ps : List ℕ). AreHeld c.as_slice-2.result.now ps (length c.as_slice-2.result.now) held) c.as_slice-3.ensures c.in_ok-held.ensures))
    ∙ c.in_ok-all.ensures
