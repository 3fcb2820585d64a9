use Rattle.std.proofs.Common.{◌≡◌, true, false, slice_get, Some, subst, ap, sym, arith}
use Rattle.std.specs.List.Sorted.{IsPartitionPoint}
use Rattle.std.proofs.lemmas.Option.{none-some, same_Some}
use Rattle.rt_dict.proofs.Ascending.{id_at_split, absent_past, absent_below, present_at}
use Rattle.rt_dict.proofs.dict.Dict.id_of.Goals as goal
use Rattle.rt_dict.proofs.dict.Dict.id_of.Goals.{else-id-len-via-then-id-len+else-not-below, else-id-len-via-else-id-len}

-- the key stands at the place found, and there alone
pub returns-then-not-below : goal.returns-then-not-below
returns-then-not-below g c id =
    let below = g.K.Key.below in
    let values = c.self.inside.values.items in
    let key = c.args.key.now in
    let n = c.count_below-id.result in
    let split = subst (λ xs. IsPartitionPoint (λ x. below x key ≡ true) (λ x. below x key ≡ false) xs n) c.deref.ensures.value c.count_below-id.ensures.split in
    let here : slice_get values n ≡ Some key = present_at g.met.K.Key.order values c.self.invariant.1 key c.index.result.now n split (omega (arith, c.if-id-len.true, c.len.ensures)) c.index.ensures (c.if-not-below.ensures) in (
      λ same. subst (λ i. slice_get c.args.self.now i ≡ Some key) (same_Some _ _ same) (subst (λ xs. slice_get xs n ≡ Some key) c.self.view_is here),
      λ at. ap Some (sym (id_at_split g.met.K.Key.order values c.self.invariant.1 key n id split (subst (λ xs. slice_get xs id ≡ Some key) (sym c.self.view_is) at))),
    )

-- and nowhere, where that place has a value above it or none
pub returns-else-id-len : goal.returns-else-id-len
returns-else-id-len g c id =
    let below = g.K.Key.below in
    let values = c.self.inside.values.items in
    let n = c.count_below-id.result in
    let split = subst (λ xs. IsPartitionPoint (λ x. below x c.args.key.now ≡ true) (λ x. below x c.args.key.now ≡ false) xs n) c.deref.ensures.value c.count_below-id.ensures.split in (
      λ none. absurd (none-some _ none),
      λ at.
          let found : slice_get values id ≡ Some c.args.key.now = subst (λ xs. slice_get xs id ≡ Some c.args.key.now) (sym c.self.view_is) at in
          elim c.else-id-len.branch [
            | else-id-len-via-then-id-len+else-not-below w ↦ absurd (absent_below g.met.K.Key.order values c.self.invariant.1 c.args.key.now w.index.result.now n id split w.index.ensures w.if-not-below.ensures found)
            | else-id-len-via-else-id-len w ↦ absurd (absent_past g.met.K.Key.order values c.self.invariant.1 c.args.key.now n id split (omega (arith, w.if-id-len.false, c.len.ensures)) found)
          ],
    )
