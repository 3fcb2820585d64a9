-- The greatest of some times.
use Rattle.std.proofs.Common.{◌≡◌, ◌↔◌, ℤ, Bool, true, false, cond, List, [], ◌∷◌, fold, All, Option, Some, None, ◌⊎◌, inl, inr, refl, sym, ap, subst, arith}
use Rattle.std.specs.Prelude.{◌≤ℤ◌, int_lt}
use Rattle.std.specs.List.{AllByRecursion}
use Rattle.std.proofs.lemmas.Int.{ints}
use Rattle.std.proofs.lemmas.List.Elements.{All-from_recursion}
use Rattle.std.proofs.lemmas.Option.{same_Some, none-some}
use Rattle.rt_lists.specs.Members.{Has}
use Rattle.rt_hybrid.specs.Table.{greatest_of, greater_of}

abbrev IsBelow : Option ℤ → ℤ → Type 0
IsBelow None time = Unit {0}
IsBelow (Some t) time = t ≤ℤ time

abbrev AreBelow : List ℤ → ℤ → Type 0
AreBelow times time = AllByRecursion (λ other. other ≤ℤ time) times

record IsMost (before : Option ℤ) (times : List ℤ) (time : ℤ) : Type 0 where
  one : (before ≡ Some time) ⊎ Has times time
  first : IsBelow before time
  all : AreBelow times time

le_same : (a b : ℤ) → a ≡ b → a ≤ℤ b
le_same a b e = subst (λ z. a ≤ℤ z) e (omega (arith, ints))

before_below : (before : Option ℤ) (time : ℤ) → before ≡ Some time → IsBelow before time
before_below None time e = tt
before_below (Some t) time e = le_same t time (same_Some t time e)

one_more : (before : Option ℤ) (t : ℤ) (times : List ℤ) (time : ℤ) → IsMost (greater_of before t) times time → IsMost before (t ∷ times) time
one_more None t times time most = record { one = inr (by most.one); first = tt; all = (most.first, most.all) }
  where
    by : (Some t ≡ Some time) ⊎ Has times time → (t ≡ time) ⊎ Has times time
    by (inl e) = inl (same_Some t time e)
    by (inr h) = inr h
one_more (Some g) t times time most = by (int_lt g t) refl most
  where
    by : (b : Bool) → int_lt g t ≡ b → IsMost (cond b (Some t) (Some g)) times time → IsMost (Some g) (t ∷ times) time
    by true e m = record { one = inr (of m.one); first = let h : t ≤ℤ time = m.first in grind (arith, ints); all = (m.first, m.all) }
      where
        of : (Some t ≡ Some time) ⊎ Has times time → (t ≡ time) ⊎ Has times time
        of (inl f) = inl (same_Some t time f)
        of (inr h) = inr h
    by false e m = record { one = of m.one; first = m.first; all = ((let h : g ≤ℤ time = m.first in grind (arith, ints)), m.all) }
      where
        of : (Some g ≡ Some time) ⊎ Has times time → (Some g ≡ Some time) ⊎ ((t ≡ time) ⊎ Has times time)
        of (inl f) = inl f
        of (inr h) = inr (inr h)

most_of : (before : Option ℤ) (times : List ℤ) (time : ℤ) → fold greater_of before times ≡ Some time → IsMost before times time
most_of before [] time e = record { one = inl e; first = before_below before time e; all = tt }
most_of before (t ∷ times) time e = one_more before t times time (most_of (greater_of before t) times time e)

one_of : (times : List ℤ) (time : ℤ) → (None ≡ Some time) ⊎ Has times time → Has times time
one_of times time (inl e) = absurd (none-some time e)
one_of times time (inr h) = h

pub is_greatest : (times : List ℤ) (time : ℤ) → greatest_of times ≡ Some time → Has times time × All (λ other. other ≤ℤ time) times
is_greatest times time e =
    let most = most_of None times time e in
    (one_of times time most.one, All-from_recursion (λ other. other ≤ℤ time) times most.all)

stays_some : (g : ℤ) (times : List ℤ) → fold greater_of (Some g) times ≡ None → ⊥
stays_some g [] e = none-some g (sym e)
stays_some g (t ∷ times) e = by (int_lt g t) (λ z. stays_some z times) e
  where
    by : (b : Bool) → ((z : ℤ) → fold greater_of (Some z) times ≡ None → ⊥) → fold greater_of (cond b (Some t) (Some g)) times ≡ None → ⊥
    by true later f = later t f
    by false later f = later g f

no_times : (times : List ℤ) → greatest_of times ≡ None → times ≡ []
no_times [] e = refl
no_times (t ∷ times) e = absurd (stays_some t times e)

pub none_greatest : (times : List ℤ) → (greatest_of times ≡ None) ↔ (times ≡ [])
none_greatest times = (no_times times, λ e. ap greatest_of e)
