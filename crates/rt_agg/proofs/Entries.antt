-- The entries of keys and holders.
use Rattle.std.proofs.Common.{◌≡◌, ◌≢◌, ℕ, zero, suc, ◌+◌, ◌<◌, ◌≤◌, Bool, true, false, cond, List, [], ◌∷◌, ◌++◌, length, map, take, Some, None, refl, sym, ap, ◌∙◌, subst, true≢false, arith, slice_get}
use Rattle.std.specs.Prelude.{◌||◌, is_some, unwrap_or}
use Rattle.std.proofs.lemmas.Option.{slice_get_within}
use Rattle.std.specs.List.{AllByRecursion, IsDistinct, list_any}
use Rattle.std.specs.Map.{lookup, keys_of}
use Rattle.rt_schema.specs.declared.value.Value.{Value}
use Rattle.rt_model.specs.declared.query_parts.ColumnAt.{ColumnAt}
use Rattle.rt_agg.specs.Accumulator.{Accumulator}
use Rattle.rt_agg.specs.Grouped.{same_key}
use Rattle.rt_agg.specs.GroupTable.{entries_from}
use Rattle.rt_agg.specs.ResultHolder.{held_of}
use Rattle.rt_agg.specs.declared.result_holder.ResultHolder.{ResultHolder}
use Rattle.rt_agg.proofs.Holding.{keys_equiv, same_is}

abbrev Keys : Type 0
Keys = List (List Value)

module _ (columns : List ColumnAt) (hs : List ResultHolder) where
  -- what is known of the group of a number with a key
  abbrev pub known_by : ℕ → List Value → List Accumulator
  known_by group key = map (held_of columns key group) hs

  pub keys_are : (n : ℕ) (ks : Keys) → keys_of (entries_from columns hs n ks) ≡ ks
  keys_are n [] = refl
  keys_are n (k ∷ ks) = ap (λ t. k ∷ t) (keys_are (suc n) ks)

  pub entries_long : (n : ℕ) (ks : Keys) → length (entries_from columns hs n ks) ≡ length ks
  entries_long n [] = refl
  entries_long n (k ∷ ks) = ap suc (entries_long (suc n) ks)

  entry_at : (n i : ℕ) (ks : Keys) (k : List Value) → slice_get ks i ≡ Some k → slice_get (entries_from columns hs n ks) i ≡ Some (k, known_by (n + i) k)
  entry_at n i [] k at = absurd (omega (arith, slice_get_within {A = List Value} [] i k at))
  entry_at n zero (x ∷ ks) k at =
      let same : x ≡ k = ap (λ o. unwrap_or o k) at in
      let here : n ≡ n + 0 = omega arith in
      λ j. Some (same j, known_by (here j) (same j))
  entry_at n (suc i) (x ∷ ks) k at =
      let next : suc n + i ≡ n + suc i = omega arith in
      entry_at (suc n) i ks k at ∙ ap (λ m. Some (k, known_by m k)) next

  -- the entry of a key
  pub entry_of : (i : ℕ) (ks : Keys) (k : List Value) → slice_get ks i ≡ Some k → slice_get (entries_from columns hs 0 ks) i ≡ Some (k, known_by i k)
  entry_of i ks k at =
      let here : 0 + i ≡ i = omega arith in
      entry_at 0 i ks k at ∙ ap (λ m. Some (k, known_by m k)) here

  more_at : (n : ℕ) (ks : Keys) (k : List Value) → entries_from columns hs n (ks ++ k ∷ []) ≡ entries_from columns hs n ks ++ (k, known_by (n + length ks) k) ∷ []
  more_at n [] k =
      let here : n ≡ n + 0 = omega arith in
      λ j. (k, known_by (here j) k) ∷ []
  more_at n (x ∷ ks) k =
      let next : suc n + length ks ≡ n + suc (length ks) = omega arith in
      ap (λ t. (x, known_by n x) ∷ t) (more_at (suc n) ks k ∙ ap (λ m. entries_from columns hs (suc n) ks ++ (k, known_by m k) ∷ []) next)

  -- one key more
  pub entries_more : (ks : Keys) (k : List Value) → entries_from columns hs 0 (ks ++ k ∷ []) ≡ entries_from columns hs 0 ks ++ (k, known_by (length ks) k) ∷ []
  entries_more ks k =
      let here : 0 + length ks ≡ length ks = omega arith in
      more_at 0 ks k ∙ ap (λ m. entries_from columns hs 0 ks ++ (k, known_by m k) ∷ []) here

  pub entries_first : (n m : ℕ) (ks : Keys) → entries_from columns hs n (take m ks) ≡ take m (entries_from columns hs n ks)
  entries_first n zero ks = refl
  entries_first n (suc m) [] = refl
  entries_first n (suc m) (k ∷ ks) = ap (λ t. (k, known_by n k) ∷ t) (entries_first (suc n) m ks)

  pub none_there : (n : ℕ) (test : List Value → Bool) (ks : Keys) → list_any test ks ≡ false → lookup test (entries_from columns hs n ks) ≡ None
  none_there n test [] none = refl
  none_there n test (k ∷ ks) none = by (test k) none (none_there (suc n) test ks)
    where
      by : (b : Bool) → (b || list_any test ks) ≡ false → (list_any test ks ≡ false → lookup test (entries_from columns hs (suc n) ks) ≡ None)
          → cond b (Some (known_by n k)) (lookup test (entries_from columns hs (suc n) ks)) ≡ None
      by true h rest = absurd (true≢false h)
      by false h rest = rest h

-- ---- other holders

module _ (columns : List ColumnAt) (hs now : List ResultHolder) where
  abbrev SameAt : ℕ → Type 0
  SameAt j = (key : List Value) → known_by columns now j key ≡ known_by columns hs j key

  -- nothing is changed of the groups of these keys
  pub entries_same : (n : ℕ) (ks : Keys) → ((j : ℕ) → n ≤ j → j < n + length ks → SameAt j) → entries_from columns now n ks ≡ entries_from columns hs n ks
  entries_same n [] same = refl
  entries_same n (k ∷ ks) same =
      λ i. (k, same n (omega arith) (omega arith) k i) ∷ entries_same (suc n) ks (λ j le lt. same j (omega (arith, le)) (omega (arith, lt))) i

  all_at : (P : List Value → Type 0) (xs : Keys) (i : ℕ) (x : List Value) → AllByRecursion P xs → slice_get xs i ≡ Some x → P x
  all_at P [] i x all at = absurd (true≢false (sym (ap is_some at)))
  all_at P (y ∷ xs) zero x all at = subst P (ap (λ o. unwrap_or o x) at) all.0
  all_at P (y ∷ xs) (suc i) x all at = all_at P xs i x all.1 at

  module _ (group : ℕ) (other : (j : ℕ) → j ≢ group → SameAt j) (wanted : List Accumulator) (k q : List Value) where
    -- of one group something else is known
    changed_from : (n i : ℕ) (ks : Keys) → IsDistinct same_key ks → slice_get ks i ≡ Some k → group ≡ n + i → known_by columns now group k ≡ wanted
        → lookup (same_key q) (entries_from columns now n ks) ≡ cond (same_key k q) (Some wanted) (lookup (same_key q) (entries_from columns hs n ks))
    unfolding IsDistinct
    changed_from n i [] apart at is known = absurd (omega (arith, slice_get_within {A = List Value} [] i k at))
    changed_from n zero (x ∷ ks) apart at is known =
        let same : x ≡ k = ap (λ o. unwrap_or o k) at in
        let head : known_by columns now n x ≡ wanted =
        subst (λ m. known_by columns now m x ≡ wanted) (is ∙ omega arith) (subst (λ y. known_by columns now group y ≡ wanted) (sym same) known) in
        let rest = entries_same (suc n) ks (λ j le lt. other j (λ e. absurd (omega (arith, le, e, is)))) in
        (λ j. cond (same_key q x) (Some (head j)) (lookup (same_key q) (rest j)))
        ∙ by (same_key q x) (same_key k q) (keys_equiv.symm q x ∙ ap (λ y. same_key y q) same)
      where
        by : (a b : Bool) → a ≡ b → cond a (Some wanted) (lookup (same_key q) (entries_from columns hs (suc n) ks)) ≡ cond b (Some wanted) (cond a (Some (known_by columns hs n x)) (lookup (same_key q) (entries_from columns hs (suc n) ks)))
        by true true e = refl
        by true false e = absurd (true≢false e)
        by false true e = absurd (true≢false (sym e))
        by false false e = refl
    changed_from n (suc i) (x ∷ ks) apart at is known =
        let head = other n (λ e. absurd (omega (arith, e, is))) x in
        let rest = changed_from (suc n) i ks apart.1 at (is ∙ omega arith) known in
        let unlike : same_key x k ≡ false = all_at (λ y. same_key x y ≡ false) ks i k apart.0 at in
        (λ j. cond (same_key q x) (Some (head j)) (rest j)) ∙ by (same_key q x) (same_key k q) refl refl unlike
      where
        by : (a b : Bool) → same_key q x ≡ a → same_key k q ≡ b → same_key x k ≡ false
            → cond a (Some (known_by columns hs n x)) (cond b (Some wanted) (lookup (same_key q) (entries_from columns hs (suc n) ks)))
            ≡ cond b (Some wanted) (cond a (Some (known_by columns hs n x)) (lookup (same_key q) (entries_from columns hs (suc n) ks)))
        by true true e f unlike =
            absurd (true≢false (sym (ap (λ y. same_key y k) (sym (same_is q x e)) ∙ keys_equiv.symm q k ∙ f) ∙ unlike))
        by true false e f unlike = refl
        by false true e f unlike = refl
        by false false e f unlike = refl

    pub entry_changed : (ks : Keys) → IsDistinct same_key ks → slice_get ks group ≡ Some k → known_by columns now group k ≡ wanted
        → lookup (same_key q) (entries_from columns now 0 ks) ≡ cond (same_key k q) (Some wanted) (lookup (same_key q) (entries_from columns hs 0 ks))
    entry_changed ks apart at known = changed_from 0 group ks apart at (omega arith) known
