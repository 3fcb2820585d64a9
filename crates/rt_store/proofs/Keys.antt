-- The order of keys, and their equality.
use Rattle.std.proofs.Common.{◌≡◌, Ordering, Less, Equal, Greater, refl, ap, nat_cmp, subst}
use Rattle.std.specs.Ordering.{ordering_then}
use Rattle.std.specs.Cmp.{nat_cmp_total}
use Rattle.std.proofs.lemmas.Cmp.{tied_itself}
use Rattle.std.proofs.lemmas.Map.Lookups.{exact_unsigned}
use Rattle.rt_base.specs.declared.numbers.Partition.{Partition}
use Rattle.rt_base.specs.declared.numbers.Sequence.{Sequence}
use Rattle.rt_model.specs.declared.node.Key.{Key}
use Rattle.rt_model.specs.declared.node.Key.TheVariants.{Meta, Ideal, Boot}
use Rattle.rt_model.proofs.Histories.{same_partition, same_sequence, same_instance}
use Rattle.rt_store.specs.Order.{key_cmp}

then_equal : (a b : Ordering) → ordering_then a b ≡ Equal → (a ≡ Equal) × (b ≡ Equal)
then_equal Less b e = absurd (cc)
then_equal Equal b e = (refl, e)
then_equal Greater b e = absurd (cc)

same_meta : (p q : Partition) (s t : Sequence) → (nat_cmp p.0 q.0 ≡ Equal) × (nat_cmp s.0 t.0 ≡ Equal) → Meta p s ≡ Meta q t
same_meta p q s t both =
    let same_p : p ≡ q = same_partition p q (exact_unsigned p.0 q.0 both.0) in
    let same_s : s ≡ t = same_sequence s t (exact_unsigned s.0 t.0 both.1) in
    cc

-- keys that the order ties are one
pub same_from_order : (j k : Key) → key_cmp j k ≡ Equal → j ≡ k
same_from_order (Meta p s) (Meta q t) e = same_meta p q s t (then_equal (nat_cmp p.0 q.0) (nat_cmp s.0 t.0) e)
same_from_order (Meta p s) Ideal e = absurd (cc)
same_from_order (Meta p s) (Boot j) e = absurd (cc)
same_from_order Ideal (Meta q t) e = absurd (cc)
same_from_order Ideal Ideal e = refl
same_from_order Ideal (Boot j) e = absurd (cc)
same_from_order (Boot i) (Meta q t) e = absurd (cc)
same_from_order (Boot i) Ideal e = absurd (cc)
same_from_order (Boot i) (Boot j) e = ap Boot (same_instance i j (exact_unsigned i.0 j.0 e))

tied : (k : Key) → key_cmp k k ≡ Equal
tied (Meta p s) = rw (tied_itself nat_cmp_total p.0) (tied_itself nat_cmp_total s.0)
tied Ideal = refl
tied (Boot i) = tied_itself nat_cmp_total i.0

-- one key is tied with itself
pub order_of_same : (j k : Key) → j ≡ k → key_cmp j k ≡ Equal
order_of_same j k e = let P : Key → Type 0 = λ x. key_cmp j x ≡ Equal in subst P e (tied j)
