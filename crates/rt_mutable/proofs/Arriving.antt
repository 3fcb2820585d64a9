-- Values in the order of their first arrival: one more at the end, and one less.
use Rattle.std.proofs.Common.{◌≡◌, ◌==◌, ℕ, zero, suc, ◌+◌, ◌-◌, ◌<◌, ◌≤◌, Bool, true, false, not, cond, ◌||◌, eqb, List, [], ◌∷◌, ◌++◌, length, map, take, fold, find, slice_get, get_or, Some, refl, sym, ap, subst, ◌∙◌, inl, inr, arith}
use Rattle.std.specs.Cmp.{IsEquivalence}
use Rattle.std.specs.List.{list_any, position_or_len}
use Rattle.std.proofs.lemmas.Bool.{cond_both, cond-true, cond-false, false≢true, true≢false, or_left, or_right, or_cases, eqb-true, ne_eqb, eq-eqb}
use Rattle.std.proofs.lemmas.List.{map_push, take_at, length_push, same_from_push, length-map}
use Rattle.std.proofs.lemmas.List.Sums.{fold_push, prefix_len-le-length}
use Rattle.std.proofs.lemmas.List.Folds.{list_any-append, find_at, position_or_len_push}
use Rattle.std.proofs.lemmas.Option.{slice_get_within, slice_get-get_or}
use Rattle.rt_mutable.specs.Arrivals.{arrive, arrivals_of, id_among, ids_of, values_by, unless_used, AreArrivals}

-- a list that has an item has a last one
pub last_split : {X : Type 0} (xs : List X) → 0 < length xs → (front : List X) × (last : X) × (xs ≡ front ++ last ∷ [])
last_split [] h = absurd (omega arith)
last_split (x ∷ []) h = ([], x, refl)
last_split (x ∷ y ∷ xs) h =
    let rest = last_split (y ∷ xs) (omega arith) in
    (x ∷ rest.0, rest.1, ap (λ l. x ∷ l) rest.2)

pub take_front : {X : Type 0} (xs front : List X) (last : X) → xs ≡ front ++ last ∷ [] → take (length xs - 1) xs ≡ front
take_front xs front last e =
    let size : length (front ++ last ∷ []) - 1 ≡ length front = omega (arith, length_push front last) in
    rw (e, size) (take_at front (last ∷ []) (length front) refl)

module _ {K : Type 0} {eq : K → K → Bool} (laws : IsEquivalence eq) (exact : (x y : K) → eq x y ≡ true → x ≡ y) where
  pub kept_one : (ks : List K) (x v : K) → list_any (eq v) ks ≡ true → list_any (eq v) (arrive eq ks x) ≡ true
  kept_one ks x v h = cond_both (list_any (eq x) ks) ks (ks ++ x ∷ []) (λ l. list_any (eq v) l ≡ true) (λ _. h)
      (λ _. list_any-append (eq v) ks (x ∷ []) ∙ or_left (list_any (eq v) ks) (list_any (eq v) (x ∷ [])) h)

  pub arrived_one : (ks : List K) (x : K) → list_any (eq x) (arrive eq ks x) ≡ true
  arrived_one ks x = cond_both (list_any (eq x) ks) ks (ks ++ x ∷ []) (λ l. list_any (eq x) l ≡ true) (λ e. e)
      (λ _. list_any-append (eq x) ks (x ∷ []) ∙ or_right (list_any (eq x) ks) (list_any (eq x) (x ∷ [])) (ap (λ b. b || false) (laws.refl x)))

  kept_all : (vs ks : List K) (v : K) → list_any (eq v) ks ≡ true → list_any (eq v) (fold (arrive eq) ks vs) ≡ true
  kept_all [] ks v h = h
  kept_all (x ∷ vs) ks v h = kept_all vs (arrive eq ks x) v (kept_one ks x v h)

  -- each of some values is among the distinct ones
  abbrev pub AreAmong : List K → List K → Type 0
  AreAmong ks [] = Unit {0}
  AreAmong ks (v ∷ vs) = (list_any (eq v) ks ≡ true) × AreAmong ks vs

  pub among_fold : (vs ks : List K) → AreAmong (fold (arrive eq) ks vs) vs
  among_fold [] ks = tt
  among_fold (v ∷ vs) ks = (kept_all vs (arrive eq ks v) v (arrived_one ks v), among_fold vs (arrive eq ks v))

  pub among_arrivals : (vs : List K) → AreAmong (arrivals_of eq vs) vs
  among_arrivals vs = among_fold vs []

  find_is : (ks : List K) (v : K) → list_any (eq v) ks ≡ true → find (eq v) ks ≡ Some v
  find_is [] v h = absurd (false≢true h)
  find_is (k ∷ ks) v h = by (eq v k) refl (find_is ks v)
    where
      by : (b : Bool) → eq v k ≡ b → (list_any (eq v) ks ≡ true → find (eq v) ks ≡ Some v) → cond (eq v k) (Some k) (find (eq v) ks) ≡ Some v
      by true e rest = cond-true _ _ _ e ∙ ap Some (sym (exact v k e))
      by false e rest = cond-false _ _ _ e ∙ rest (sym (ap (λ b. b || list_any (eq v) ks) e) ∙ h)

  -- the id of a value leads to it
  pub found : (ks : List K) (v : K) → list_any (eq v) ks ≡ true → slice_get ks (id_among eq ks v) ≡ Some v
  found ks v h = sym (find_at (eq v) ks) ∙ find_is ks v h

  pub id_within : (ks : List K) (v : K) → list_any (eq v) ks ≡ true → id_among eq ks v < length ks
  id_within ks v h = slice_get_within ks (id_among eq ks v) v (found ks v h)

  -- and is the same among more values
  pub id_kept : (ks : List K) (x v : K) → list_any (eq v) ks ≡ true → id_among eq (arrive eq ks x) v ≡ id_among eq ks v
  id_kept ks x v h = cond_both (list_any (eq x) ks) ks (ks ++ x ∷ []) (λ l. id_among eq l v ≡ id_among eq ks v) (λ _. refl)
      (λ _. position_or_len_push (eq v) ks x ∙ cond-false _ _ _ (ne_eqb (id_among eq ks v) (length ks) (λ (same : id_among eq ks v ≡ length ks). omega (arith, id_within ks v h, same))))

  pub id_arrived : (ks : List K) (x : K) → id_among eq (arrive eq ks x) x ≡ id_among eq ks x
  id_arrived ks x = cond_both (list_any (eq x) ks) ks (ks ++ x ∷ []) (λ l. id_among eq l x ≡ id_among eq ks x) (λ _. refl)
      (λ _. position_or_len_push (eq x) ks x ∙ cond_both (eqb (position_or_len (eq x) ks) (length ks)) (length ks + cond (eq x x) 0 1) (position_or_len (eq x) ks)
      (λ n. n ≡ position_or_len (eq x) ks)
      (λ last. let none : ◌≡◌ {A = ℕ} (cond (eq x x) 0 1) 0 = cond-true _ _ _ (laws.refl x) in omega (arith, none, eqb-true _ _ last)) (λ _. refl))

  length_arrive : (ks : List K) (x : K) → length (arrive eq ks x) ≤ length ks + 1
  length_arrive ks x = cond_both (list_any (eq x) ks) ks (ks ++ x ∷ []) (λ l. length l ≤ length ks + 1) (λ _. omega arith) (λ _. omega (arith, length_push ks x))

  length_fold : (vs ks : List K) → length (fold (arrive eq) ks vs) ≤ length ks + length vs
  length_fold [] ks = omega arith
  length_fold (v ∷ vs) ks = omega (arith, length_fold vs (arrive eq ks v), length_arrive ks v)

  -- there are no more distinct values than rows
  pub length_arrivals : (vs : List K) → length (arrivals_of eq vs) ≤ length vs
  length_arrivals vs = omega (arith, length_fold vs [])

  pub few_keys : (ks : List K) (ids : List ℕ) → AreArrivals eq ks ids → length ks ≤ 1000000
  few_keys ks ids a = omega (arith, ap length a.arrived, length_arrivals (values_by ks ids), ap length a.identified, length-map (values_by ks ids) (id_among eq (arrivals_of eq (values_by ks ids))), a.few)

  pub id_small : (ks : List K) (ids : List ℕ) (x : K) → AreArrivals eq ks ids → id_among eq ks x ≤ length (values_by ks ids)
  id_small ks ids x a = omega (arith, prefix_len-le-length (λ k. not (eq x k)) ks, ap length a.arrived, length_arrivals (values_by ks ids))

  ids_kept : (vs ks : List K) (x : K) → AreAmong ks vs → map (id_among eq (arrive eq ks x)) vs ≡ map (id_among eq ks) vs
  ids_kept [] ks x h = refl
  ids_kept (v ∷ vs) ks x h = (λ j. id_kept ks x v h.0 j ∷ ids_kept vs ks x h.1 j)

  values_are : (vs ks : List K) → AreAmong ks vs → values_by ks (map (id_among eq ks) vs) ≡ vs
  values_are [] ks h = refl
  values_are (v ∷ vs) ks h = rw (found ks v h.0) (ap (λ l. v ∷ l) (values_are vs ks h.1))

  -- the ids of values lead to them
  pub values_of_ids : (vs : List K) → values_by (arrivals_of eq vs) (ids_of eq vs) ≡ vs
  values_of_ids vs = values_are vs (arrivals_of eq vs) (among_arrivals vs)

  id_leads : (vs ks : List K) (row : ℕ) → AreAmong ks vs → row < length vs → slice_get ks (get_or (map (id_among eq ks) vs) row 0) ≡ slice_get vs row
  id_leads [] ks row h lt = absurd (omega (arith, lt))
  id_leads (v ∷ vs) ks zero h lt = found ks v h.0
  id_leads (v ∷ vs) ks (suc row) h lt = id_leads vs ks row h.1 (omega (arith, lt))

  -- the id of a row leads to its value
  pub value_of_row : (vs : List K) (row : ℕ) → row < length vs → slice_get (arrivals_of eq vs) (get_or (ids_of eq vs) row 0) ≡ slice_get vs row
  value_of_row vs row lt = id_leads vs (arrivals_of eq vs) row (among_arrivals vs) lt

  pub id_of_row_within : (vs : List K) (row : ℕ) → row < length vs → get_or (ids_of eq vs) row 0 < length (arrivals_of eq vs)
  id_of_row_within [] row lt = absurd (omega (arith, lt))
  id_of_row_within (v ∷ vs) row lt = slice_get_within _ _ _ (value_of_row (v ∷ vs) row lt ∙ slice_get-get_or (v ∷ vs) row v lt)

  pub arrivals_push : (vs : List K) (x : K) → arrivals_of eq (vs ++ x ∷ []) ≡ arrive eq (arrivals_of eq vs) x
  arrivals_push vs x = fold_push (arrive eq) [] vs x

  pub ids_push : (vs : List K) (x : K) → ids_of eq (vs ++ x ∷ []) ≡ ids_of eq vs ++ id_among eq (arrivals_of eq vs) x ∷ []
  ids_push vs x =
      let ks = arrivals_of eq vs in
      ap (λ l. map (id_among eq l) (vs ++ x ∷ [])) (arrivals_push vs x)
      ∙ map_push (id_among eq (arrive eq ks x)) vs x
      ∙ (λ j. ids_kept vs ks x (among_arrivals vs) j ++ id_arrived ks x j ∷ [])

  pub length_ids : (vs : List K) → length (ids_of eq vs) ≡ length vs
  length_ids vs = length-map vs (id_among eq (arrivals_of eq vs))

  -- what the distinct values and the ids of some rows are
  pub record Hold (ks : List K) (ids : List ℕ) (vs : List K) : Type 0 where
    pub arrivals : AreArrivals eq ks ids
    pub values : values_by ks ids ≡ vs

  pub hold : (vs ks : List K) (ids : List ℕ) → ks ≡ arrivals_of eq vs → ids ≡ ids_of eq vs → length vs ≤ 1000000 → Hold ks ids vs
  hold vs ks ids e f few =
      let seen : values_by ks ids ≡ vs = (λ j. values_by (e j) (f j)) ∙ values_of_ids vs in
      record {
        arrivals = record {
          arrived = e ∙ ap (arrivals_of eq) (sym seen);
          identified = f ∙ ap (ids_of eq) (sym seen);
          few = omega (arith, ap length f, length_ids vs);
        };
        values = seen;
      }

  -- a row more
  pub hold_push : (ks ks' : List K) (ids ids' : List ℕ) (x : K) → AreArrivals eq ks ids → length (values_by ks ids) < 1000000 → ks' ≡ arrive eq ks x → ids' ≡ ids ++ id_among eq ks x ∷ [] → Hold ks' ids' (values_by ks ids ++ x ∷ [])
  hold_push ks ks' ids ids' x a few e f =
      let vs = values_by ks ids in
      hold (vs ++ x ∷ []) ks' ids'
      (e ∙ ap (λ l. arrive eq l x) a.arrived ∙ sym (arrivals_push vs x))
      (f ∙ (λ j. a.identified j ++ id_among eq (a.arrived j) x ∷ []) ∙ sym (ids_push vs x))
      (omega (arith, length_push vs x))

  -- a value that arrived stands in the rows
  pub came : (vs ks : List K) (v : K) → list_any (eq v) (fold (arrive eq) ks vs) ≡ true → (list_any (eq v) ks || list_any (eq v) vs) ≡ true
  came [] ks v h = or_left (list_any (eq v) ks) false h
  came (x ∷ vs) ks v h = elim (or_cases (list_any (eq v) (arrive eq ks x)) (list_any (eq v) vs) (came vs (arrive eq ks x) v h)) [
    | inr later ↦ or_right (list_any (eq v) ks) (eq v x || list_any (eq v) vs) (or_right (eq v x) (list_any (eq v) vs) later)
    | inl early ↦ by (list_any (eq x) ks) refl early
  ]
    where
      by : (b : Bool) → list_any (eq x) ks ≡ b → list_any (eq v) (arrive eq ks x) ≡ true → (list_any (eq v) ks || (eq v x || list_any (eq v) vs)) ≡ true
      by true e at = or_left (list_any (eq v) ks) _ (sym (ap (list_any (eq v)) (cond-true (list_any (eq x) ks) ks (ks ++ x ∷ []) e)) ∙ at)
      by false e at =
          elim (or_cases (list_any (eq v) ks) (eq v x || false) (sym (ap (list_any (eq v)) (cond-false (list_any (eq x) ks) ks (ks ++ x ∷ []) e) ∙ list_any-append (eq v) ks (x ∷ [])) ∙ at)) [
            | inl here ↦ or_left (list_any (eq v) ks) _ here
            | inr last ↦ or_right (list_any (eq v) ks) _ (elim (or_cases (eq v x) false last) [ inl same ↦ or_left (eq v x) _ same | inr never ↦ absurd (false≢true never) ])
          ]

  -- a row with the value has its id
  id_used : (f : K → ℕ) (vs : List K) (v : K) → list_any (eq v) vs ≡ true → list_any (λ other. other == f v) (map f vs) ≡ true
  id_used f [] v h = absurd (false≢true h)
  id_used f (u ∷ vs) v h = elim (or_cases (eq v u) (list_any (eq v) vs) h) [
    | inl same ↦ or_left (f u == f v) _ (eq-eqb _ _ (ap f (sym (exact v u same))))
    | inr later ↦ or_right (f u == f v) _ (id_used f vs v later)
  ]

  pub id_unused : (vs ks : List K) (n : ℕ) → AreAmong ks vs → length ks ≤ n → list_any (λ other. other == n) (map (id_among eq ks) vs) ≡ false
  id_unused [] ks n h past = refl
  id_unused (v ∷ vs) ks n h past =
      let here : (id_among eq ks v == n) ≡ false = ne_eqb (id_among eq ks v) n (λ (same : id_among eq ks v ≡ n). omega (arith, id_within ks v h.0, same)) in
      ap (λ b. b || list_any (λ other. other == n) (map (id_among eq ks) vs)) here ∙ id_unused vs ks n h.1 past

  -- a value that isn't there has the id that a next one gets
  pub id_next : (ks : List K) (v : K) → list_any (eq v) ks ≡ false → length ks ≤ id_among eq ks v
  id_next [] v h = omega arith
  id_next (k ∷ ks) v h = by (eq v k) refl (id_next ks v)
    where
      by : (b : Bool) → eq v k ≡ b → (list_any (eq v) ks ≡ false → length ks ≤ id_among eq ks v) → length (k ∷ ks) ≤ id_among eq (k ∷ ks) v
      by true e rest = absurd (true≢false (sym (or_left (eq v k) (list_any (eq v) ks) e) ∙ h))
      by false e rest =
          let past = rest (sym (ap (λ b. b || list_any (eq v) ks) e) ∙ h) in
          rw e (omega (arith, past))

  -- a row less: the last value goes where no other row has it
  left_is : (us ks : List K) (v : K) → ks ≡ arrive eq (arrivals_of eq us) v → unless_used ks (id_among eq (arrivals_of eq us) v) (ids_of eq us) ≡ arrivals_of eq us
  left_is us ks v e = by (list_any (eq v) (arrivals_of eq us)) refl
    where
      was : List K
      was = arrivals_of eq us

      by : (b : Bool) → list_any (eq v) (arrivals_of eq us) ≡ b → unless_used ks (id_among eq (arrivals_of eq us) v) (ids_of eq us) ≡ arrivals_of eq us
      by true at = cond-true _ _ _ (id_used (id_among eq (arrivals_of eq us)) us v (came us [] v at))
          ∙ e ∙ cond-true _ _ _ at
      by false at = cond-false _ _ _ (id_unused us (arrivals_of eq us) _ (among_arrivals us) (id_next (arrivals_of eq us) v at))
          ∙ take_front ks (arrivals_of eq us) v (e ∙ cond-false _ _ _ at)

  hold_front : (vs ks ks' : List K) (ids ids' : List ℕ) (id : ℕ) (us : List K) (v : K) → vs ≡ us ++ v ∷ [] → length vs ≤ 1000000 → ks ≡ arrivals_of eq vs → ids ≡ ids_of eq vs → ids ≡ ids' ++ id ∷ [] → ks' ≡ unless_used ks id ids' → Hold ks' ids' us
  hold_front vs ks ks' ids ids' id us v split few arrived identified e f =
      let ids_are : ids_of eq vs ≡ ids_of eq us ++ id_among eq (arrivals_of eq us) v ∷ [] = ap (ids_of eq) split ∙ ids_push us v in
      let parts = same_from_push ids' (ids_of eq us) id (id_among eq (arrivals_of eq us) v) (sym e ∙ identified ∙ ids_are) in
      let keys_are : arrivals_of eq vs ≡ arrive eq (arrivals_of eq us) v = ap (arrivals_of eq) split ∙ arrivals_push us v in
      hold us ks' ids' (f ∙ (λ j. unless_used ks (parts.1 j) (parts.0 j)) ∙ left_is us ks v (arrived ∙ keys_are)) parts.0
      (omega (arith, few, ap length split, length_push us v))

  pub hold_pop : (ks ks' : List K) (ids ids' : List ℕ) (id : ℕ) → AreArrivals eq ks ids → ids ≡ ids' ++ id ∷ [] → ks' ≡ unless_used ks id ids' → Hold ks' ids' (take (length (values_by ks ids) - 1) (values_by ks ids))
  hold_pop ks ks' ids ids' id a e f =
      let size : length ids ≡ length (values_by ks ids) = ap length a.identified ∙ length_ids (values_by ks ids) in
      let split = last_split (values_by ks ids) (omega (arith, size, ap length e, length_push ids' id)) in
      subst (Hold ks' ids') (sym (take_front (values_by ks ids) split.0 split.1 split.2))
      (hold_front (values_by ks ids) ks ks' ids ids' id split.0 split.1 split.2 (omega (arith, a.few, size)) a.arrived a.identified e f)
