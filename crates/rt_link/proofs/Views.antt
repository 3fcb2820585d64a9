-- What holds of each item of a list, after one was set or one was added.
use Rattle.std.proofs.Common.{◌≡◌, ◌≢◌, ℕ, zero, suc, ◌⊎◌, List, [], ◌∷◌, ◌++◌, length, set, sym, refl, ap, subst, inl, inr, ⊎_elim}
use mathlib.Core.Option.{some, some-injective, some-ne-none}
use lib.ListN.{get_elem?}
use Rattle.atomic_table.proofs.Lists.{at_set}

module _ {A : Type 0} where
  at_more : (l : List A) (a b : A) (j : ℕ) → get_elem? (l ++ a ∷ []) j ≡ some b → (get_elem? l j ≡ some b) ⊎ ((j ≡ length l) × (a ≡ b))
  at_more [] a b zero e = inr (refl, some-injective a b e)
  at_more [] a b (suc j) e = absurd (some-ne-none b (sym e))
  at_more (x ∷ xs) a b zero e = inl e
  at_more (x ∷ xs) a b (suc j) e = ⊎_elim (λ h. inl h) (λ h. inr (ap suc h.0, h.1)) (at_more xs a b j e)

  pub each_set : (F : ℕ → A → Type 0) (l : List A) (k : ℕ) (w : A) → F k w → ((j : ℕ) (u : A) → j ≢ k → get_elem? l j ≡ some u → F j u) → (j : ℕ) (u : A) → get_elem? (set l k w) j ≡ some u → F j u
  each_set F l k w here others j u e =
      ⊎_elim (λ (x : (j ≡ k) × (w ≡ u)). subst (λ (y : ℕ × A). F y.0 y.1) (λ i. (sym x.0 i, x.1 i)) here)
      (λ (x : (j ≢ k) × (get_elem? l j ≡ some u)). others j u x.0 x.1)
      (at_set l k j w u e)

  pub each_more : (F : ℕ → A → Type 0) (l : List A) (w : A) → F (length l) w → ((j : ℕ) (u : A) → get_elem? l j ≡ some u → F j u) → (j : ℕ) (u : A) → get_elem? (l ++ w ∷ []) j ≡ some u → F j u
  each_more F l w last others j u e =
      ⊎_elim (λ (x : get_elem? l j ≡ some u). others j u x)
      (λ (x : (j ≡ length l) × (w ≡ u)). subst (λ (y : ℕ × A). F y.0 y.1) (λ i. (sym x.0 i, x.1 i)) last)
      (at_more l w u j e)
