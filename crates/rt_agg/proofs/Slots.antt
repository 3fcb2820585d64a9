-- One item of a list that is changed.
use Rattle.std.proofs.Common.{◌≡◌, ℕ, zero, suc, ◌<◌, ◌≤◌, List, [], ◌∷◌, ◌++◌, length, Some, None, refl, sym, ap, ◌∙◌, arith, slice_get, slice_set}
use Rattle.std.specs.Prelude.{slice_index_or}
use Rattle.std.proofs.lemmas.List.{set_past}
use Rattle.std.proofs.lemmas.Option.{get_or_from_slice_get}
use Rattle.rt_agg.specs.ResultHolder.{join_at, put_at, with_other}

pub put_over : {X : Type 0} (xs : List X) (at : ℕ) (x : X) → at < length xs → slice_set xs at x ≡ put_at at x xs
put_over [] at x lt = absurd (omega arith)
put_over (y ∷ xs) zero x lt = refl
put_over (y ∷ xs) (suc at) x lt = ap (λ t. y ∷ t) (put_over xs at x (omega (arith, lt)))

pub put_last : {X : Type 0} (xs : List X) (at : ℕ) (x : X) → length xs ≤ at → at ≤ length xs → xs ++ x ∷ [] ≡ put_at at x xs
put_last [] zero x past within = refl
put_last [] (suc at) x past within = absurd (omega (arith, within))
put_last (y ∷ xs) zero x past within = absurd (omega (arith, past))
put_last (y ∷ xs) (suc at) x past within = ap (λ t. y ∷ t) (put_last xs at x (omega (arith, past)) (omega (arith, within)))

-- the item that was read is changed
pub set_changed : {X : Type 0} (f : X → X) (xs : List X) (i : ℕ) (x v d : X) → slice_get xs i ≡ Some x → v ≡ f x → slice_set xs i v ≡ slice_set xs i (f (slice_index_or xs i d))
set_changed f xs i x v d at is = ap (slice_set xs i) (is ∙ ap f (sym (get_or_from_slice_get xs i x d at)))

pub set_none : {X : Type 0} (xs : List X) (i : ℕ) (v : X) → length xs ≤ i → xs ≡ slice_set xs i v
set_none xs i v past = sym (set_past xs i v past)

set_same : {X : Type 0} (xs : List X) (i : ℕ) (d : X) → slice_set xs i (slice_index_or xs i d) ≡ xs
set_same [] i d = refl
set_same (x ∷ xs) zero d = refl
set_same (x ∷ xs) (suc i) d = ap (λ t. x ∷ t) (set_same xs i d)

none_past : {X : Type 0} (xs : List X) (i : ℕ) → length xs ≤ i → slice_get xs i ≡ None
none_past [] i past = refl
none_past (x ∷ xs) zero past = absurd (omega (arith, past))
none_past (x ∷ xs) (suc i) past = none_past xs i (omega (arith, past))

-- with that of others
pub join_none : {X : Type 0} (join : X → X → X) (none : X) (group : ℕ) (xs : List X) (from : ℕ) (ys : List X) → length ys ≤ from → xs ≡ join_at join none group xs from ys
join_none join none group xs from ys past =
    sym (ap (λ o. slice_set xs group (with_other join (slice_index_or xs group none) o)) (none_past ys from past) ∙ set_same xs group none)

pub join_past : {X : Type 0} (join : X → X → X) (none : X) (group : ℕ) (xs : List X) (from : ℕ) (ys : List X) → length xs ≤ group → xs ≡ join_at join none group xs from ys
join_past join none group xs from ys past = set_none xs group (with_other join (slice_index_or xs group none) (slice_get ys from)) past
