-- Keys of which no two are the same.
use Rattle.std.proofs.Common.{◌≡◌, ℕ, zero, suc, Bool, true, false, ◌||◌, List, [], ◌∷◌, ◌++◌, take, slice_get, Some, None, Option, refl, sym, ap, ◌∙◌, subst, true≢false, arith}
use Rattle.std.specs.Prelude.{if◌then◌else◌, is_some, unwrap_or, Result, Ok, Err, IfNone, OnErr, OnOk}
use Rattle.std.specs.List.{AllByRecursion, Contains, IsDistinct, list_any}
use Rattle.std.specs.Map.{lookup, keys_of}
use Rattle.std.proofs.lemmas.Map.Keys.{IsDistinct-push}
use Rattle.std.proofs.lemmas.Map.Views.{Contains-keys_from_lookup, list_any-from_Contains}
use Rattle.std.proofs.lemmas.Option.{slice_get_within}
use Rattle.rt_schema.specs.declared.value.Value.{Value}
use Rattle.rt_agg.specs.Accumulator.{Accumulator}
use Rattle.rt_agg.specs.Grouped.{same_key}
use Rattle.rt_agg.proofs.Holding.{keys_equiv, same_is}

abbrev Keys : Type 0
Keys = List (List Value)

pub none_apart : IsDistinct same_key []
unfolding IsDistinct
none_apart = tt

pub more_apart : (ks : Keys) (k : List Value) → IsDistinct same_key ks → list_any (same_key k) ks ≡ false → IsDistinct same_key (ks ++ k ∷ [])
more_apart ks k apart none = IsDistinct-push keys_equiv ks k apart none

pub pushed_apart : {T E : Type 0} (result : Result T E) (old new : Keys) (k : List Value) → IsDistinct same_key old → list_any (same_key k) old ≡ false
    → OnOk result (new ≡ old ++ k ∷ []) → OnErr result (new ≡ old) → IsDistinct same_key new
pushed_apart (Ok x) old new k apart none ok err = subst (IsDistinct same_key) (sym ok) (more_apart old k apart none)
pushed_apart (Err e) old new k apart none ok err = subst (IsDistinct same_key) (sym err) apart

first_all : (P : List Value → Type 0) (n : ℕ) (ks : Keys) → AllByRecursion P ks → AllByRecursion P (take n ks)
first_all P zero ks all = tt
first_all P (suc n) [] all = tt
first_all P (suc n) (k ∷ ks) all = (all.0, first_all P n ks all.1)

pub first_apart : (n : ℕ) (ks : Keys) → IsDistinct same_key ks → IsDistinct same_key (take n ks)
unfolding IsDistinct
first_apart zero ks apart = tt
first_apart (suc n) [] apart = tt
first_apart (suc n) (k ∷ ks) apart = (first_all (λ y. same_key k y ≡ false) n ks apart.0, first_apart n ks apart.1)

all_at : (P : List Value → Type 0) (ks : Keys) (i : ℕ) (k : List Value) → AllByRecursion P ks → slice_get ks i ≡ Some k → P k
all_at P [] i k all at = absurd (true≢false (sym (ap is_some at)))
all_at P (l ∷ ks) zero k all at = subst P (ap (λ o. unwrap_or o k) at) all.0
all_at P (l ∷ ks) (suc i) k all at = all_at P ks i k all.1 at

-- a key is not among those before it
pub none_before : (ks : Keys) (i : ℕ) (k : List Value) → IsDistinct same_key ks → slice_get ks i ≡ Some k → list_any (same_key k) (take i ks) ≡ false
unfolding IsDistinct
none_before ks zero k apart at = refl
none_before [] (suc i) k apart at = refl
none_before (l ∷ ks) (suc i) k apart at =
    let other = keys_equiv.symm k l ∙ all_at (λ y. same_key l y ≡ false) ks i k apart.0 at in
    (λ j. other j || list_any (same_key k) (take i ks)) ∙ none_before ks i k apart.1 at

-- a key keeps its place before one more
pub stays_before : (ks : Keys) (k : List Value) (i : ℕ) (q : List Value) → slice_get ks i ≡ Some q → slice_get (ks ++ k ∷ []) i ≡ Some q
stays_before [] k i q at = absurd (omega (arith, slice_get_within {A = List Value} [] i q at))
stays_before (l ∷ ks) k zero q at = at
stays_before (l ∷ ks) k (suc i) q at = stays_before ks k i q at

pub none_weaker : {X : Type 0} (o : Option X) (P Q : Type 0) → (P → Q) → IfNone o P → IfNone o Q
none_weaker None P Q f p = f p
none_weaker (Some x) P Q f p = tt

-- what holds in any case holds at an Err
pub on_err_always : {T E P : Type 0} (result : Result T E) → P → OnErr result P
on_err_always (Ok x) p = tt
on_err_always (Err e) p = p

pub on_ok_weaker : {T E : Type 0} (result : Result T E) (P Q : Type 0) → (P → Q) → OnOk result P → OnOk result Q
on_ok_weaker (Ok x) P Q f p = f p
on_ok_weaker (Err e) P Q f p = tt

-- ---- a key and the entry that it has

abbrev pub Entries : Type 0
Entries = List (List Value × List Accumulator)

pub lookup_none : (es : Entries) (k : List Value) → (Contains (keys_of es) k → ⊥) → lookup (same_key k) es ≡ None
lookup_none es k absent = by (lookup (same_key k) es) refl
  where
    by : (o : Option (List Accumulator)) → lookup (same_key k) es ≡ o → lookup (same_key k) es ≡ None
    by None e = e
    by (Some a) e = absurd (absent (Contains-keys_from_lookup same_is k es (ap is_some e)))

any_of : (test : List Value → Bool) (es : Entries) → lookup test es ≡ None → list_any test (keys_of es) ≡ false
any_of test [] none = refl
any_of test (e ∷ es) none = by (test e.0) none (any_of test es)
  where
    by : (b : Bool) → (if b then Some e.1 else lookup test es) ≡ None → (lookup test es ≡ None → list_any test (keys_of es) ≡ false) → (b || list_any test (keys_of es)) ≡ false
    by true h rest = absurd (true≢false (ap is_some h))
    by false h rest = rest h

pub any_none : (es : Entries) (k : List Value) → lookup (same_key k) es ≡ None → list_any (same_key k) (keys_of es) ≡ false
any_none es k none = any_of (same_key k) es none

pub absent : (es : Entries) (k : List Value) → lookup (same_key k) es ≡ None → Contains (keys_of es) k → ⊥
absent es k none there = true≢false (sym (list_any-from_Contains keys_equiv k (keys_of es) there) ∙ any_none es k none)
