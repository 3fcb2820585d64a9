-- The views after one was set or one was added.
use Rattle.std.proofs.Common.{◌≡◌, ◌≢◌, ℕ, zero, suc, ◌<◌, ◌⊎◌, Bool, true, false, cond, true≢false, List, [], ◌∷◌, ◌++◌, length, set, sym, refl, ap, ◌∙◌, subst, inl, inr, ⊎_elim, arith}
use mathlib.Core.Option.{Option, some, none, some-injective, some-ne-none}
use mathlib.Core.Logic.{dite}
use native.Mathlib.Decide.{ℕ_discrete}
use lib.ListN.{get_elem?}
use Rattle.atomic_table.proofs.Lists.{at_set, set_here, set_else, at_longer, at_last}
use Rattle.rt_front.specs.declared.rule.View.{View}
use Rattle.rt_front.specs.Rules.{carries}

module _ {A : Type 0} where
  pub within : (l : List A) (i : ℕ) (a : A) → get_elem? l i ≡ some a → i < length l
  within [] i a e = absurd (some-ne-none a (sym e))
  within (x ∷ xs) zero a e = omega arith
  within (x ∷ xs) (suc i) a e = let h = within xs i a e in omega (arith, h)

  pub at_more : (l : List A) (a b : A) (j : ℕ) → get_elem? (l ++ a ∷ []) j ≡ some b → (get_elem? l j ≡ some b) ⊎ ((j ≡ length l) × (a ≡ b))
  at_more [] a b zero e = inr (refl, some-injective a b e)
  at_more [] a b (suc j) e = absurd (some-ne-none b (sym e))
  at_more (x ∷ xs) a b zero e = inl e
  at_more (x ∷ xs) a b (suc j) e = ⊎_elim (λ h. inl h) (λ h. inr (ap suc h.0, h.1)) (at_more xs a b j e)

  -- each is as it should be, after one was set
  pub each_set : (F : ℕ → A → Type 0) (l : List A) (k : ℕ) (w : A) → F k w → ((j : ℕ) (u : A) → j ≢ k → get_elem? l j ≡ some u → F j u) → (j : ℕ) (u : A) → get_elem? (set l k w) j ≡ some u → F j u
  each_set F l k w here others j u e =
      ⊎_elim (λ (x : (j ≡ k) × (w ≡ u)). subst (λ (y : ℕ × A). F y.0 y.1) (λ i. (sym x.0 i, x.1 i)) here)
      (λ (x : (j ≢ k) × (get_elem? l j ≡ some u)). others j u x.0 x.1)
      (at_set l k j w u e)

  -- and after one was added
  pub each_more : (F : ℕ → A → Type 0) (l : List A) (w : A) → F (length l) w → ((j : ℕ) (u : A) → get_elem? l j ≡ some u → F j u) → (j : ℕ) (u : A) → get_elem? (l ++ w ∷ []) j ≡ some u → F j u
  each_more F l w last others j u e =
      ⊎_elim (λ (x : get_elem? l j ≡ some u). others j u x)
      (λ (x : (j ≡ length l) × (w ≡ u)). subst (λ (y : ℕ × A). F y.0 y.1) (λ i. (sym x.0 i, x.1 i)) last)
      (at_more l w u j e)

-- ---- where a number stands

pub moved : (ℕ → Bool) → ℕ → (ℕ → ℕ) → ℕ → ℕ
moved goes k home n = cond (goes n) k (home n)

pub moved_there : (goes : ℕ → Bool) (k : ℕ) (home : ℕ → ℕ) (n : ℕ) → goes n ≡ true → moved goes k home n ≡ k
unfolding moved
moved_there goes k home n e = ap (λ b. cond b k (home n)) e

pub moved_not : (goes : ℕ → Bool) (k : ℕ) (home : ℕ → ℕ) (n : ℕ) → goes n ≡ false → moved goes k home n ≡ home n
unfolding moved
moved_not goes k home n e = ap (λ b. cond b k (home n)) e

one_of : (b : Bool) (k m : ℕ) → m ≡ k → cond b k m ≡ k
one_of true k m e = refl
one_of false k m e = e

pub moved_same : (goes : ℕ → Bool) (k : ℕ) (home : ℕ → ℕ) (n : ℕ) → home n ≡ k → moved goes k home n ≡ k
unfolding moved
moved_same goes k home n e = one_of (goes n) k (home n) e

module _ {T : Type 0} where
  pub carry_set : (n : ℕ) (l : List (View T)) (k : ℕ) (v w : View T) → get_elem? l k ≡ some v → (carries n (some v) ≡ true → carries n (some w) ≡ true)
      → (j : ℕ) → carries n (get_elem? l j) ≡ true → carries n (get_elem? (set l k w) j) ≡ true
  carry_set n l k v w at keeps j c =
      dite (ℕ_discrete j k)
      (λ e. ap (λ i. carries n (get_elem? (set l k w) i)) e ∙ ap (carries n) (set_here l k w (within l k v at)) ∙ keeps (ap (carries n) (sym at) ∙ ap (λ i. carries n (get_elem? l i)) (sym e) ∙ c))
      (λ ne. ap (carries n) (set_else l k j w ne) ∙ c)

  some_from : (n : ℕ) (o : Option (View T)) → carries n o ≡ true → (v : View T) × (o ≡ some v)
  some_from n none e = absurd (true≢false (sym e))
  some_from n (some v) e = (v, refl)

  pub carry_more : (n : ℕ) (l : List (View T)) (w : View T) (j : ℕ) → carries n (get_elem? l j) ≡ true → carries n (get_elem? (l ++ w ∷ []) j) ≡ true
  carry_more n l w j c =
      let x = some_from n (get_elem? l j) c in
      ap (carries n) (at_longer l (w ∷ []) j x.0 x.1) ∙ ap (carries n) (sym x.1) ∙ c

  pub carry_last : (n : ℕ) (l : List (View T)) (w : View T) → carries n (some w) ≡ true → carries n (get_elem? (l ++ w ∷ []) (length l)) ≡ true
  carry_last n l w c = ap (carries n) (at_last l w (length l) refl) ∙ c
