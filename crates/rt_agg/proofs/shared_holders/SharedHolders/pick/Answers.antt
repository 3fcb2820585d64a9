use Rattle.std.proofs.Common.{◌∙◌, ℕ, List, arith, length, map, subst}
use Rattle.std.specs.List.{AllByRecursion}
use Rattle.std.proofs.lemmas.List.{length-map}
use Rattle.rt_model.specs.declared.query_parts.Item.{Item}
use Rattle.rt_agg.specs.Picking.{IsPicked}
use Rattle.rt_agg.specs.ResultHolder.{item_of}
use Rattle.rt_agg.specs.Sharing.{AreFirsts, AreHeld, IsShared, spread}
use Rattle.rt_agg.specs.declared.result_holder.ResultHolder.{ResultHolder}
use Rattle.rt_agg.proofs.Picked.{spread_all}
use Rattle.rt_agg.proofs.Spreading.{held_items, held_shared, items_shown}
use Rattle.rt_agg.proofs.shared_holders.SharedHolders.pick.Goals as goal
use Rattle.rt_agg.proofs.shared_holders.SharedHolders.pick.Goals.{In_ok-held}

firsts : (c : In_ok-held) → AreFirsts c.in_ok-all.all c.in_ok-places.places
firsts c = subst (λ (xs : List Item). AreFirsts xs c.in_ok-places.places) c.as_slice.ensures c.in_ok-places.ensures

all_held : (c : In_ok-held) → AreHeld c.in_ok-all.all c.in_ok-places.places (length c.in_ok-all.all) (map item_of c.in_ok-held.held)
all_held c =
    let held = map item_of c.in_ok-held.held in
    subst (λ (xs : List Item). AreHeld xs c.in_ok-places.places (length xs) held) c.as_slice-2.ensures
    (subst (λ (ps : List ℕ). AreHeld c.as_slice-2.result.now ps (length c.as_slice-2.result.now) held) c.as_slice-3.ensures c.in_ok-held.ensures.held)

all_shared : (c : In_ok-held) → IsShared c.in_ok-places.places (map item_of c.in_ok-held.held)
all_shared c = held_shared c.in_ok-all.all c.in_ok-places.places (map item_of c.in_ok-held.held) (firsts c) (all_held c)

pub invariant_of-result : goal.invariant_of-result
invariant_of-result c = all_shared c

pub returns-clause-items : goal.returns-clause-items
returns-clause-items c =
    let at = (goal.at.returns-clause-items c).In_ok-held in
    items_shown c.in_ok-places.places c.in_ok-held.held
    ∙ held_items c.in_ok-all.all c.in_ok-places.places (map item_of c.in_ok-held.held) (firsts at) (all_held at)
    ∙ c.in_ok-all.ensures

pub returns-clause-picked : goal.returns-clause-picked
returns-clause-picked c =
    let at = (goal.at.returns-clause-picked c).In_ok-held in
    let marks = c.args.marks.now in
    let held = c.in_ok-held.held in
    spread_all (IsPicked c.args.others.now marks) held c.in_ok-places.places
    (λ i d lt. omega (arith, (all_shared at).within i d lt, length-map held item_of))
    (subst (λ (os : List ResultHolder). AllByRecursion (IsPicked os marks) held)
    ((λ j. spread (at.as_slice-at.ensures j) (at.as_slice-theirs.ensures j)) ∙ at.others.view_is) at.in_ok-held.ensures.picked)
