-- What stands at its place, as an item is put there or comes to the end.
use Rattle.std.proofs.Common.{◌≡◌, ℕ, zero, suc, ◌⊎◌, inl, inr, List, [], ◌∷◌, ◌++◌, length, Some, sym, subst, slice_get}
use Rattle.std.specs.Prelude.{slice_set}
use Rattle.std.proofs.lemmas.Option.{same_Some, none-some}
use Rattle.rt_broker.proofs.Lasting.{got_of_set}
use Rattle.rt_state.specs.Places.{AreAt}

pub at_weaker : {X : Type 0} (P Q : ℕ → X → Type 0) → ((i : ℕ) (x : X) → P i x → Q i x) → (xs : List X) → AreAt P xs → AreAt Q xs
at_weaker P Q f xs a i x e = f i x (a i x e)

-- an item is put at its place
pub at_set : {X : Type 0} (P : ℕ → X → Type 0) (xs : List X) (i : ℕ) (x : X) → P i x → AreAt P xs → AreAt P (slice_set xs i x)
at_set {X = X} P xs i x p a j y e = by_place (got_of_set xs i j x y e)
  where
    by_place : ((j ≡ i) × (y ≡ x)) ⊎ (slice_get xs j ≡ Some y) → P j y
    by_place (inl same) = subst (λ z. P j z) (sym same.1) (subst (λ k. P k x) (sym same.0) p)
    by_place (inr other) = a j y other

-- an item more
pub at_push : {X : Type 0} (P : ℕ → X → Type 0) (xs : List X) (x : X) → P (length xs) x → AreAt P xs → AreAt P (xs ++ x ∷ [])
at_push {X = X} P [] x p a zero y e = subst (λ z. P 0 z) (same_Some x y e) p
at_push P [] x p a (suc j) y e = absurd (none-some y e)
at_push P (z ∷ xs) x p a zero y e = a 0 y e
at_push P (z ∷ xs) x p a (suc j) y e = at_push (λ i w. P (suc i) w) xs x p (λ i w f. a (suc i) w f) j y e

pub at_none : {X : Type 0} (P : ℕ → X → Type 0) → AreAt P []
at_none P i x e = absurd (none-some x e)
