-- Ids and the indices noted for them.
use Rattle.std.proofs.Common.{◌≡◌, ℕ, zero, suc, ◌<◌, Bool, true, false, cond, List, [], ◌∷◌, ◌++◌, length, get_or, slice_get, Option, None, Some, refl, ap, sym, subst, ◌∙◌, inl, inr, arith}
use Rattle.std.specs.Prelude.{◌⊎◌, nat_eq, is_some, unwrap_or}
use Rattle.std.specs.List.{Contains}
use Rattle.std.specs.Map.{lookup_key}
use lib.Pointwise.{pointwise}
use Rattle.std.proofs.lemmas.Bool.{true≢false, false≢true, and_parts, and_from, eqb-true, eq-eqb}
use Rattle.std.proofs.lemmas.Option.{slice_get_within, get_or_from_slice_get, none-some}
use Rattle.indexmap.specs.IndexMap.{insert_entry}
use Rattle.rt_scan.specs.GroupIds.{IsAbsent, Met}

abbrev pub met_of : List (List ℕ × ℕ) → List (Option ℕ) → Met
met_of by_ids by_id = record { by_ids = by_ids; by_id = by_id }

exact_ids : (xs ys : List ℕ) → pointwise nat_eq xs ys ≡ true → xs ≡ ys
exact_ids [] [] e = refl
exact_ids [] (y ∷ ys) e = absurd (false≢true e)
exact_ids (x ∷ xs) [] e = absurd (false≢true e)
exact_ids (x ∷ xs) (y ∷ ys) e = let p = and_parts _ _ e in ap (λ z. z ∷ xs) (eqb-true x y p.0) ∙ ap (λ zs. y ∷ zs) (exact_ids xs ys p.1)

found_by : {K X : Type 0} (test : K → Bool) (e : K × X) (es : List (K × X)) (k : K) (b : Bool) → test e.0 ≡ b → cond b (Some e.0) (lookup_key test es) ≡ Some k → (lookup_key test es ≡ Some k → test k ≡ true) → test k ≡ true
found_by test e es k true t h rest = ap test (sym (ap (λ o. unwrap_or o k) h)) ∙ t
found_by test e es k false t h rest = rest h

found_key : {K X : Type 0} (test : K → Bool) (es : List (K × X)) (k : K) → lookup_key test es ≡ Some k → test k ≡ true
found_key test [] k e = absurd (true≢false (sym (ap is_some e)))
found_key test (x ∷ es) k e = found_by test x es k (test x.0) refl e (found_key test es k)

-- what is found is there
pub found_entry : (ids k : List ℕ) (index at : ℕ) (es : List (List ℕ × ℕ)) → lookup_key (pointwise nat_eq ids) es ≡ Some k → slice_get es at ≡ Some (k, index) → Contains es (ids, index)
found_entry ids k index at es key entry =
    let same : ids ≡ k = exact_ids ids k (found_key (pointwise nat_eq ids) es k key) in
    subst (λ q. Contains es (q, index)) (sym same) (at, slice_get_within es at (k, index) entry, get_or_from_slice_get es at (k, index) (k, index) entry)

later : {X : Type 0} (x : X) (xs : List X) (z : X) → Contains xs z → Contains (x ∷ xs) z
later x xs z at = (suc at.0, omega (arith, at.1), at.2)

head : {X : Type 0} (x : X) (xs : List X) → Contains (x ∷ xs) x
head x xs = (0, omega arith, refl)

same_ids : (xs : List ℕ) → pointwise nat_eq xs xs ≡ true
same_ids [] = refl
same_ids (x ∷ xs) = and_from (nat_eq x x) (pointwise nat_eq xs xs) (eq-eqb x x refl) (same_ids xs)

head_or_later : {X : Type 0} (x : X) (xs : List X) (z : X) (k : ℕ) → k < length (x ∷ xs) → get_or (x ∷ xs) k z ≡ z → (x ≡ z) ⊎ Contains xs z
head_or_later x xs z zero h at = inl at
head_or_later x xs z (suc k) h at = inr (k, omega arith, at)

-- what is not found is not there
absent_at : (ids : List ℕ) (e : List ℕ × ℕ) (es : List (List ℕ × ℕ)) (b : Bool) → pointwise nat_eq ids e.0 ≡ b → cond b (Some e.0) (lookup_key (pointwise nat_eq ids) es) ≡ None → (lookup_key (pointwise nat_eq ids) es ≡ None → IsAbsent es ids) → IsAbsent (e ∷ es) ids
absent_at ids e es true t none rest index at = absurd (none-some _ (sym none))
absent_at ids e es false t none rest index at = elim (head_or_later e es (ids, index) at.0 at.1 at.2) [
  | inl same ↦ absurd (true≢false (sym (same_ids ids) ∙ ap (λ (x : List ℕ × ℕ). pointwise nat_eq ids x.0) (sym same) ∙ t))
  | inr there ↦ rest none index there
]

pub absent : (ids : List ℕ) (es : List (List ℕ × ℕ)) → lookup_key (pointwise nat_eq ids) es ≡ None → IsAbsent es ids
absent ids [] none index at = omega (arith, at.1)
absent ids (e ∷ es) none index at = absent_at ids e es (pointwise nat_eq ids e.0) refl none (absent ids es) index at

-- and goes last
last_at : (k : List ℕ) (v : ℕ) (e : List ℕ × ℕ) (es : List (List ℕ × ℕ)) (b : Bool) → pointwise nat_eq k e.0 ≡ b → IsAbsent (e ∷ es) k → insert_entry (pointwise nat_eq) es k v ≡ es ++ (k, v) ∷ [] →
    cond b ((e.0, v) ∷ es) (e ∷ insert_entry (pointwise nat_eq) es k v) ≡ e ∷ (es ++ (k, v) ∷ [])
last_at k v e es true t none rest = absurd (none e.1 (subst (λ (q : List ℕ). Contains (e ∷ es) (q, e.1)) (sym (exact_ids k e.0 t)) (head e es)))
last_at k v e es false t none rest = ap (λ xs. e ∷ xs) rest

pub inserted : (k : List ℕ) (v : ℕ) (es : List (List ℕ × ℕ)) → IsAbsent es k → insert_entry (pointwise nat_eq) es k v ≡ es ++ (k, v) ∷ []
inserted k v [] none = refl
inserted k v (e ∷ es) none = last_at k v e es (pointwise nat_eq k e.0) refl none (inserted k v es (λ index at. none index (later e es (k, index) at)))
