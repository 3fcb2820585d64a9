-- The steps of a merge.
use Rattle.std.proofs.Common.{◌≡◌, ℕ, zero, suc, ◌+◌, ◌≤◌, Bool, true, false, cond, ◌||◌, List, [], ◌∷◌, ◌++◌, length, take, Option, Some, None, refl, sym, ap, ◌∙◌, subst, true≢false, arith, slice_get}
use Rattle.std.specs.Prelude.{if◌then◌else◌, is_some, unwrap_or}
use Rattle.std.specs.List.{AllByRecursion, IsDistinct}
use Rattle.std.specs.Map.{lookup, keys_of}
use Rattle.std.proofs.lemmas.Option.{slice_get_within}
use Rattle.rt_schema.specs.declared.value.Value.{Value}
use Rattle.rt_agg.specs.Accumulator.{Accumulator}
use Rattle.rt_agg.specs.Accumulators.{all_merged}
use Rattle.rt_agg.specs.Grouped.{same_key}
use Rattle.rt_agg.specs.Merging.{started_at, merged_at}
use Rattle.rt_agg.proofs.Holding.{keys_equiv, same_is, lookup_last, lookup_new}

abbrev Entries : Type 0
Entries = List (List Value × List Accumulator)

abbrev or_else : {X : Type 0} → Option X → Option X → Option X
or_else None b = b
or_else (Some a) b = Some a

abbrev entry_of : (List Value → Bool) → Option (List Value × List Accumulator) → Option (List Accumulator)
entry_of test None = None
entry_of test (Some e) = cond (test e.0) (Some e.1) None

lookup_upto : (q : List Value) (es : Entries) (i : ℕ) (k : List Value) (v : List Accumulator) → slice_get es i ≡ Some (k, v)
    → lookup (same_key q) (take (suc i) es) ≡ or_else (lookup (same_key q) (take i es)) (if same_key q k then Some v else None)
lookup_upto q [] i k v at = absurd (omega (arith, slice_get_within {A = List Value × List Accumulator} [] i (k, v) at))
lookup_upto q (e ∷ es) zero k v at =
    ap (λ o. entry_of (same_key q) o) at
lookup_upto q (e ∷ es) (suc i) k v at = by (same_key q e.0) (lookup_upto q es i k v at)
  where
    by : (b : Bool)
        → lookup (same_key q) (take (suc i) es) ≡ or_else (lookup (same_key q) (take i es)) (if same_key q k then Some v else None)
        → cond b (Some e.1) (lookup (same_key q) (take (suc i) es)) ≡ or_else (cond b (Some e.1) (lookup (same_key q) (take i es))) (if same_key q k then Some v else None)
    by true rest = refl
    by false rest = rest

all_at : {X : Type 0} (P : X → Type 0) (xs : List X) (i : ℕ) (x : X) → AllByRecursion P xs → slice_get xs i ≡ Some x → P x
all_at P [] i x all at = absurd (true≢false (sym (ap is_some at)))
all_at P (y ∷ xs) zero x all at = subst P (ap (λ o. unwrap_or o x) at) all.0
all_at P (y ∷ xs) (suc i) x all at = all_at P xs i x all.1 at

-- the key at a place is not among the keys before it
not_before : (es : Entries) (i : ℕ) (k : List Value) → IsDistinct same_key (keys_of es) → slice_get (keys_of es) i ≡ Some k → lookup (same_key k) (take i es) ≡ None
unfolding IsDistinct
not_before es zero k apart at = refl
not_before [] (suc i) k apart at = refl
not_before (e ∷ es) (suc i) k apart at =
    let other = keys_equiv.symm k e.0 ∙ all_at (λ y. same_key e.0 y ≡ false) (keys_of es) i k apart.0 at in
    (λ j. cond (other j) (Some e.1) (lookup (same_key k) (take i es))) ∙ not_before es i k apart.1 at

-- ---- starts

started_twice : (s : List Accumulator) (a : Option (List Accumulator)) (p b : Bool) → started_at s (started_at s a p) b ≡ started_at s a (p || b)
started_twice s (Some a) p b = refl
started_twice s None true b = refl
started_twice s None false true = refl
started_twice s None false false = refl

some_more : (o : Option (List Accumulator)) (b : Bool) (v : List Accumulator) → is_some (or_else o (if b then Some v else None)) ≡ (is_some o || b)
some_more (Some a) b v = refl
some_more None true v = refl
some_more None false v = refl

pub started_next : (s : List Accumulator) (q : List Value) (others : Entries) (i : ℕ) (k : List Value) (v : List Accumulator) (before now start : Option (List Accumulator))
    → slice_get others i ≡ Some (k, v)
    → before ≡ started_at s start (is_some (lookup (same_key q) (take i others)))
    → now ≡ started_at s before (same_key q k)
    → now ≡ started_at s start (is_some (lookup (same_key q) (take (i + 1) others)))
started_next s q others i k v before now start at inv step =
    let more : i + 1 ≡ suc i = omega arith in
    step ∙ ap (λ a. started_at s a (same_key q k)) inv ∙ started_twice s start (is_some (lookup (same_key q) (take i others))) (same_key q k)
    ∙ sym (ap (λ n. started_at s start (is_some (lookup (same_key q) (take n others)))) more
    ∙ ap (λ o. started_at s start (is_some o)) (lookup_upto q others i k v at)
    ∙ ap (started_at s start) (some_more (lookup (same_key q) (take i others)) (same_key q k) v))

-- ---- merges

merged_none : (a : Option (List Accumulator)) → merged_at a None ≡ a
merged_none None = refl
merged_none (Some a) = refl

or_else_none : (o : Option (List Accumulator)) → or_else o None ≡ o
or_else_none None = refl
or_else_none (Some a) = refl

pub merged_step : (q : List Value) (others : Entries) (i : ℕ) (k : List Value) (v : List Accumulator) (before now start : Option (List Accumulator))
    → IsDistinct same_key (keys_of others) → slice_get others i ≡ Some (k, v) → slice_get (keys_of others) i ≡ Some k
    → before ≡ merged_at start (lookup (same_key q) (take i others))
    → now ≡ merged_at before (if same_key q k then Some v else None)
    → now ≡ merged_at start (lookup (same_key q) (take (i + 1) others))
merged_step q others i k v before now start apart at key_at inv step =
    let more : i + 1 ≡ suc i = omega arith in
    by (same_key q k) refl ∙ sym (ap (λ n. merged_at start (lookup (same_key q) (take n others))) more ∙ ap (merged_at start) (lookup_upto q others i k v at))
  where
    by : (b : Bool) → same_key q k ≡ b → now ≡ merged_at start (or_else (lookup (same_key q) (take i others)) (if same_key q k then Some v else None))
    by true e =
        let same = same_is q k e in
        let none : lookup (same_key q) (take i others) ≡ None = ap (λ x. lookup (same_key x) (take i others)) same ∙ not_before others i k apart key_at in
        step ∙ (λ j. merged_at (inv j) (if e j then Some v else None)) ∙ (λ j. merged_at (merged_at start (none j)) (Some v)) ∙ ap (λ a. merged_at a (Some v)) (merged_none start)
        ∙ sym (λ j. merged_at start (or_else (none j) (if e j then Some v else None)))
    by false e =
        step ∙ (λ j. merged_at before (if e j then Some v else None)) ∙ merged_none before ∙ inv
        ∙ sym ((λ j. merged_at start (or_else (lookup (same_key q) (take i others)) (if e j then Some v else None))) ∙ ap (merged_at start) (or_else_none (lookup (same_key q) (take i others))))

pub started_none : (s : List Accumulator) (a : Option (List Accumulator)) → a ≡ started_at s a false
started_none s None = refl
started_none s (Some a) = refl

pub merged_first : (a : Option (List Accumulator)) → a ≡ merged_at a None
merged_first a = sym (merged_none a)

take_take : {X : Type 0} (n m : ℕ) (xs : List X) → n ≤ m → take n (take m xs) ≡ take n xs
take_take zero zero xs le = refl
take_take zero (suc m) [] le = refl
take_take zero (suc m) (x ∷ xs) le = refl
take_take (suc n) zero xs le = absurd (omega arith)
take_take (suc n) (suc m) [] le = refl
take_take (suc n) (suc m) (x ∷ xs) le = ap (λ t. x ∷ t) (take_take n m xs (omega (arith, le)))

-- what was kept of a list that was kept is kept
pub kept_through : (first before now : Entries) → length first ≤ length before → take (length first) before ≡ first → take (length before) now ≡ before → take (length first) now ≡ first
kept_through first before now le kept later =
    sym (take_take (length first) (length before) now le) ∙ ap (take (length first)) later ∙ kept

-- one group of the others
pub merged_found : (es : Entries) (q key : List Value) (known others : List Accumulator) (now : Option (List Accumulator)) → lookup (same_key key) es ≡ Some known
    → now ≡ cond (same_key key q) (Some (all_merged known others)) (lookup (same_key q) es)
    → now ≡ merged_at (lookup (same_key q) es) (if same_key q key then Some others else None)
merged_found es q key known others now there step = by (same_key q key) refl
  where
    by : (b : Bool) → same_key q key ≡ b → now ≡ merged_at (lookup (same_key q) es) (if same_key q key then Some others else None)
    by true e =
        step ∙ (λ j. cond ((keys_equiv.symm key q ∙ e) j) (Some (all_merged known others)) (lookup (same_key q) es))
        ∙ sym ((λ j. merged_at (lookup (same_key q) es) (if e j then Some others else None)) ∙ ap (λ o. merged_at o (Some others)) (ap (λ k. lookup (same_key k) es) (same_is q key e) ∙ there))
    by false e =
        step ∙ (λ j. cond ((keys_equiv.symm key q ∙ e) j) (Some (all_merged known others)) (lookup (same_key q) es))
        ∙ sym ((λ j. merged_at (lookup (same_key q) es) (if e j then Some others else None)) ∙ merged_none (lookup (same_key q) es))

pub started_found : (s : List Accumulator) (es : Entries) (q key : List Value) (known : List Accumulator) → lookup (same_key key) es ≡ Some known
    → lookup (same_key q) es ≡ started_at s (lookup (same_key q) es) (same_key q key)
started_found s es q key known there = by (same_key q key) refl
  where
    by : (b : Bool) → same_key q key ≡ b → lookup (same_key q) es ≡ started_at s (lookup (same_key q) es) (same_key q key)
    by true e =
        let found : lookup (same_key q) es ≡ Some known = ap (λ k. lookup (same_key k) es) (same_is q key e) ∙ there in
        found ∙ sym (λ j. started_at s (found j) (same_key q key))
    by false e = started_none s (lookup (same_key q) es) ∙ sym (λ j. started_at s (lookup (same_key q) es) (e j))

pub started_new : (start : List Value → List Accumulator) (es now : Entries) (q key : List Value) → lookup (same_key key) es ≡ None → now ≡ es ++ (key, start key) ∷ []
    → lookup (same_key q) now ≡ started_at (start q) (lookup (same_key q) es) (same_key q key)
started_new start es now q key none added = by (same_key q key) refl
  where
    by : (b : Bool) → same_key q key ≡ b → lookup (same_key q) now ≡ started_at (start q) (lookup (same_key q) es) (same_key q key)
    by true e =
        let same = same_is q key e in
        let absent : lookup (same_key q) es ≡ None = ap (λ k. lookup (same_key k) es) same ∙ none in
        ap (lookup (same_key q)) added ∙ lookup_new (same_key q) es key (start key) e absent ∙ ap (λ k. Some (start k)) (sym same)
        ∙ sym (λ j. started_at (start q) (absent j) (e j))
    by false e =
        ap (lookup (same_key q)) added ∙ lookup_last (same_key q) es key (start key) e ∙ started_none (start q) (lookup (same_key q) es)
        ∙ sym (λ j. started_at (start q) (lookup (same_key q) es) (e j))

-- entries before one more
pub front_kept : (es others : Entries) → take (length es) (es ++ others) ≡ es
front_kept [] [] = refl
front_kept [] (e ∷ others) = refl
front_kept (e ∷ es) others = ap (λ t. e ∷ t) (front_kept es others)
