-- The numbers of the rows that have a value: a row more, and a row less.
use Rattle.std.proofs.Common.{◌≡◌, ◌==◌, ℕ, ◌+◌, ◌-◌, ◌<◌, ◌≤◌, Bool, true, false, not, cond, le_antisymm, List, [], ◌∷◌, ◌++◌, length, map, take, set, get_or, refl, sym, ap, subst, ◌∙◌, inl, inr, arith, append-nil, slice_get}
use Rattle.std.specs.Cmp.{IsEquivalence}
use Rattle.std.specs.List.{list_any}
use Rattle.std.proofs.lemmas.Bool.{cases_Bool, cases_eq, cases_lt, cond-true, cond-false, true≢false, ne_eqb, eq-eqb, lt-ltb, le-ltb, or_parts}
use Rattle.std.proofs.lemmas.List.{length-set, get_or-set_same, get_or-set_other, get_or_append_left, get_or_push, length_push, get_or-take, length-take}
use Rattle.std.proofs.lemmas.List.Sums.{prefix_len-le-length}
use Rattle.std.proofs.lemmas.Option.{same_Some}
use Rattle.rt_mutable.specs.Arrivals.{arrive, id_among}
use Rattle.rt_mutable.specs.RowLists.{numbers_from, numbers_where, AreRowsById, with_row, without_row}
use Rattle.rt_mutable.proofs.Arriving.{AreAmong, found, id_within, id_next, take_front}

numbers_push : {X : Type 0} (test : X → Bool) (n : ℕ) (xs : List X) (x : X) → numbers_from test n (xs ++ x ∷ []) ≡ numbers_from test n xs ++ cond (test x) ((n + length xs) ∷ []) []
numbers_push test n [] x = let e : n + 0 ≡ n = omega arith in rw e refl
numbers_push test n (y ∷ xs) x = by (test y) refl (numbers_push test (n + 1) xs x)
  where
    by : (b : Bool) → test y ≡ b → numbers_from test (n + 1) (xs ++ x ∷ []) ≡ numbers_from test (n + 1) xs ++ cond (test x) ((n + 1 + length xs) ∷ []) [] → numbers_from test n (y ∷ xs ++ x ∷ []) ≡ numbers_from test n (y ∷ xs) ++ cond (test x) ((n + length (y ∷ xs)) ∷ []) []
    by true e h = let size : n + 1 + length xs ≡ n + length (y ∷ xs) = omega arith in rw (e, h, size) refl
    by false e h = let size : n + 1 + length xs ≡ n + length (y ∷ xs) = omega arith in rw (e, h, size) refl

numbers_yes : {X : Type 0} (test : X → Bool) (xs : List X) (x : X) → test x ≡ true → numbers_where test (xs ++ x ∷ []) ≡ numbers_where test xs ++ length xs ∷ []
numbers_yes test xs x e = let size : 0 + length xs ≡ length xs = omega arith in numbers_push test 0 xs x ∙ rw (e, size) refl

numbers_no : {X : Type 0} (test : X → Bool) (xs : List X) (x : X) → test x ≡ false → numbers_where test (xs ++ x ∷ []) ≡ numbers_where test xs
numbers_no test xs x e = numbers_push test 0 xs x ∙ rw e (append-nil (numbers_where test xs))

numbers_none : {X : Type 0} (test : X → Bool) (n : ℕ) (xs : List X) → list_any test xs ≡ false → numbers_from test n xs ≡ []
numbers_none test n [] h = refl
numbers_none test n (x ∷ xs) h =
    let parts = or_parts (test x) (list_any test xs) h in
    cond-false _ _ _ parts.0 ∙ numbers_none test (n + 1) xs parts.1

-- a row more
pub by_id_push : (lists : List (List ℕ)) (ids : List ℕ) (id count count' : ℕ) → AreRowsById lists ids count → (id < count → count' ≡ count) → (count ≤ id → (id ≡ count) × (count' ≡ count + 1) × (list_any (λ other. other == id) ids ≡ false)) → AreRowsById (with_row lists id (length ids)) (ids ++ id ∷ []) count'
by_id_push lists ids id count count' a known next = elim (cases_lt id count) [
  | inl lt ↦ (let e : with_row lists id (length ids) ≡ set lists id (get_or lists id [] ++ length ids ∷ []) = cond-true _ _ _ (lt-ltb id (length lists) (omega (arith, a.size))) in
      let same : count' ≡ count = known lt in
      record {
        size = ap length e ∙ length-set lists id (get_or lists id [] ++ length ids ∷ []) ∙ a.size ∙ sym same;
        rows = λ k h. ap (λ l. get_or l k []) e ∙ elim (cases_eq k id) [
          | inl here ↦ subst (λ j. get_or (set lists id (get_or lists id [] ++ length ids ∷ [])) j [] ≡ numbers_where (λ other. other == j) (ids ++ id ∷ [])) (sym here)
              (get_or-set_same lists id (get_or lists id [] ++ length ids ∷ []) [] (omega (arith, a.size))
              ∙ ap (λ l. l ++ length ids ∷ []) (a.rows id lt)
              ∙ sym (numbers_yes (λ other. other == id) ids id (eq-eqb id id refl)))
          | inr apart ↦ get_or-set_other lists id k (get_or lists id [] ++ length ids ∷ []) [] apart
              ∙ a.rows k (omega (arith, h, same))
              ∙ sym (numbers_no (λ other. other == k) ids id (ne_eqb id k (λ e. apart (sym e))))
        ];
      })
  | inr past ↦ (let facts = next past in
      let e : with_row lists id (length ids) ≡ lists ++ (length ids ∷ []) ∷ [] = cond-false _ _ _ (le-ltb id (length lists) (omega (arith, a.size))) in
      record {
        size = ap length e ∙ length_push lists (length ids ∷ []) ∙ ap (λ n. n + 1) a.size ∙ sym facts.1;
        rows = λ k h. ap (λ l. get_or l k []) e ∙ elim (cases_eq k id) [
          | inl here ↦ get_or_push lists (length ids ∷ []) [] k (a.size ∙ sym facts.0 ∙ sym here)
              ∙ subst (λ j. length ids ∷ [] ≡ numbers_where (λ other. other == j) (ids ++ id ∷ [])) (sym here)
              (sym (numbers_yes (λ other. other == id) ids id (eq-eqb id id refl) ∙ ap (λ l. l ++ length ids ∷ []) (numbers_none (λ other. other == id) 0 ids facts.2)))
          | inr apart ↦ (let early : k < count = omega (arith, h, facts.0, facts.1, apart) in
              get_or_append_left lists ((length ids ∷ []) ∷ []) [] k (omega (arith, a.size))
              ∙ a.rows k early
              ∙ sym (numbers_no (λ other. other == k) ids id (ne_eqb id k (λ e. apart (sym e)))))
        ];
      })
]

-- a row less
pub by_id_pop : (lists : List (List ℕ)) (ids : List ℕ) (id count count' : ℕ) → AreRowsById lists (ids ++ id ∷ []) count' → (id < count → count' ≡ count) → (count ≤ id → (id ≡ count) × (count' ≡ count + 1)) → AreRowsById (without_row lists id count) ids count
by_id_pop lists ids id count count' a known next = elim (cases_lt id count) [
  | inl lt ↦ (let shorter = take (length (get_or lists id []) - 1) (get_or lists id []) in
      let e : without_row lists id count ≡ set lists id shorter = cond-true _ _ _ (lt-ltb id count lt) in
      let same : count' ≡ count = known lt in
      record {
        size = ap length e ∙ length-set lists id shorter ∙ a.size ∙ same;
        rows = λ k h. ap (λ l. get_or l k []) e ∙ elim (cases_eq k id) [
          | inl here ↦ subst (λ j. get_or (set lists id (take (length (get_or lists id []) - 1) (get_or lists id []))) j [] ≡ numbers_where (λ other. other == j) ids) (sym here)
              (get_or-set_same lists id (take (length (get_or lists id []) - 1) (get_or lists id [])) [] (omega (arith, a.size))
              ∙ take_front (get_or lists id []) (numbers_where (λ other. other == id) ids) (length ids)
              (a.rows id (omega arith) ∙ numbers_yes (λ other. other == id) ids id (eq-eqb id id refl)))
          | inr apart ↦ get_or-set_other lists id k (take (length (get_or lists id []) - 1) (get_or lists id [])) [] apart
              ∙ a.rows k (omega (arith, h, same))
              ∙ numbers_no (λ other. other == k) ids id (ne_eqb id k (λ e. apart (sym e)))
        ];
      })
  | inr past ↦ (let facts = next past in
      let e : without_row lists id count ≡ take (length lists - 1) lists = cond-false _ _ _ (le-ltb id count past) in
      record {
        size = ap length e ∙ omega (arith, length-take (length lists - 1) lists, a.size, facts.1);
        rows = λ k h. ap (λ l. get_or l k []) e ∙ get_or-take (length lists - 1) lists k [] (omega (arith, a.size, facts.1, h))
            ∙ a.rows k (omega (arith, h, facts.1))
            ∙ numbers_no (λ other. other == k) ids id (ne_eqb id k (λ (same : id ≡ k). omega (arith, same, h, facts.0)));
      })
]

module _ {K : Type 0} {eq : K → K → Bool} (laws : IsEquivalence eq) (exact : (x y : K) → eq x y ≡ true → x ≡ y) where
  same_test : (ks : List K) (v u : K) → list_any (eq v) ks ≡ true → list_any (eq u) ks ≡ true → (id_among eq ks u == id_among eq ks v) ≡ eq v u
  same_test ks v u hv hu = by (eq v u) refl
    where
      by : (b : Bool) → eq v u ≡ b → (id_among eq ks u == id_among eq ks v) ≡ eq v u
      by true e = eq-eqb _ _ (ap (id_among eq ks) (sym (exact v u e))) ∙ sym e
      by false e = ne_eqb _ _ (λ (same : id_among eq ks u ≡ id_among eq ks v).
          true≢false (sym (laws.refl v) ∙ ap (eq v) (same_Some v u (sym (found laws exact ks v hv) ∙ ap (slice_get ks) (sym same) ∙ found laws exact ks u hu)) ∙ e)) ∙ sym e

  pub numbers_by_id : (vs ks : List K) (v : K) (n : ℕ) → list_any (eq v) ks ≡ true → AreAmong laws exact ks vs → numbers_from (λ other. other == id_among eq ks v) n (map (id_among eq ks) vs) ≡ numbers_from (eq v) n vs
  numbers_by_id [] ks v n h among = refl
  numbers_by_id (u ∷ vs) ks v n h among =
      (λ j. cond (same_test ks v u h among.0 j) (n ∷ numbers_by_id vs ks v (n + 1) h among.1 j) (numbers_by_id vs ks v (n + 1) h among.1 j))

  pub numbers_absent : (vs ks : List K) (v : K) (n : ℕ) → list_any (eq v) ks ≡ false → AreAmong laws exact ks vs → numbers_from (eq v) n vs ≡ []
  numbers_absent [] ks v n h among = refl
  numbers_absent (u ∷ vs) ks v n h among = by (eq v u) refl (numbers_absent vs ks v (n + 1) h among.1)
    where
      by : (b : Bool) → eq v u ≡ b → numbers_from (eq v) (n + 1) vs ≡ [] → numbers_from (eq v) n (u ∷ vs) ≡ []
      by true e rest = absurd (true≢false (sym among.0 ∙ ap (λ w. list_any (eq w) ks) (sym (exact v u e)) ∙ h))
      by false e rest = cond-false _ _ _ e ∙ rest

  -- how many distinct values a value more leaves
  pub count_known : (ks : List K) (v : K) → id_among eq ks v < length ks → length (arrive eq ks v) ≡ length ks
  count_known ks v lt = elim (cases_Bool (list_any (eq v) ks)) [
    | inl there ↦ ap length (cond-true _ ks (ks ++ v ∷ []) there)
    | inr none ↦ absurd (omega (arith, lt, id_next laws exact ks v none))
  ]

  pub count_next : (ks : List K) (v : K) → length ks ≤ id_among eq ks v → (id_among eq ks v ≡ length ks) × (length (arrive eq ks v) ≡ length ks + 1)
  count_next ks v past = elim (cases_Bool (list_any (eq v) ks)) [
    | inl there ↦ absurd (omega (arith, past, id_within laws exact ks v there))
    | inr none ↦ (le_antisymm (prefix_len-le-length (λ k. not (eq v k)) ks) past, ap length (cond-false _ ks (ks ++ v ∷ []) none) ∙ length_push ks v)
  ]
