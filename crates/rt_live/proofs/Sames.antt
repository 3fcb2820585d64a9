-- Ends are compared one by one.
use Rattle.std.proofs.Common.{◌≡◌, ◌∙◌, ℕ, Bool, true, false, ◌&&◌, nat_eq, List, [], ◌∷◌, ap, refl}
use Rattle.std.proofs.lemmas.Bool.{eqb-true}
use lib.Pointwise.{pointwise}
use Rattle.rt_base.specs.declared.numbers.Offset.{Offset}

abbrev same_offset : Offset → Offset → Bool
same_offset a b = nat_eq a.0 b.0

abbrev offset : ℕ → Offset
offset n = record { 0 = n }

both_true : (a b : Bool) → (a && b) ≡ true → (a ≡ true) × (b ≡ true)
both_true true b e = (refl, e)
both_true false b e = absurd (cc)

pub all_same : (xs ys : List Offset) → pointwise same_offset xs ys ≡ true → xs ≡ ys
all_same [] [] e = refl
all_same [] (y ∷ ys) e = absurd (cc)
all_same (x ∷ xs) [] e = absurd (cc)
all_same (x ∷ xs) (y ∷ ys) e =
    let both = both_true (same_offset x y) (pointwise same_offset xs ys) e in
    ap (λ (z : Offset). z ∷ xs) (ap offset (eqb-true x.0 y.0 both.0)) ∙ ap (λ (zs : List Offset). y ∷ zs) (all_same xs ys both.1)
