-- The rows of each value of an indexed column: looked up, with a row more, and with a row less.
use Rattle.std.proofs.Common.{◌≡◌, ℕ, ◌-◌, ◌<◌, ◌≤◌, List, [], ◌∷◌, ◌++◌, length, take, get_or, Option, Some, None, IfSome, option_map, position, sym, ap, subst, ◌∙◌, inl, inr, arith, lt-ltb, le-ltb}
use Rattle.std.specs.List.{list_any}
use Rattle.std.proofs.lemmas.Bool.{cases_Bool, cond-true, cond-false}
use Rattle.std.proofs.lemmas.List.{get_or_push, length_push}
use Rattle.rt_schema.specs.declared.value.Value.{Value}
use Rattle.rt_mutable.specs.Arrivals.{arrive, arrivals_of, id_among, ids_of}
use Rattle.rt_mutable.specs.Column.{same_value}
use Rattle.rt_mutable.specs.RowLists.{numbers_where, AreRowsById, with_row, without_row}
use Rattle.rt_mutable.specs.Index.{IsIndex, rows_found}
use Rattle.rt_mutable.proofs.Arriving.{last_split, take_front, id_within, id_next, id_unused, id_arrived, among_arrivals, arrivals_push, ids_push, length_ids}
use Rattle.rt_mutable.proofs.RowNumbers.{by_id_push, by_id_pop, numbers_by_id, numbers_absent, count_known, count_next}
use Rattle.rt_mutable.proofs.Same.{same_laws, same_exact}

pub docs_found : (vs : List Value) (lists : List (List ℕ)) (v : Value) → AreRowsById lists (ids_of same_value vs) (length (arrivals_of same_value vs)) → rows_found lists (position (same_value v) (arrivals_of same_value vs)) ≡ numbers_where (same_value v) vs
docs_found vs lists v a = elim (cases_Bool (list_any (same_value v) (arrivals_of same_value vs))) [
  | inl there ↦ (let lt = id_within same_laws same_exact (arrivals_of same_value vs) v there in
      ap (rows_found lists) (cond-true _ _ _ (lt-ltb _ _ lt)) ∙ a.rows _ lt
      ∙ numbers_by_id same_laws same_exact vs (arrivals_of same_value vs) v 0 there (among_arrivals same_laws same_exact vs))
  | inr none ↦ (let past = id_next same_laws same_exact (arrivals_of same_value vs) v none in
      ap (rows_found lists) (cond-false _ _ _ (le-ltb _ _ past))
      ∙ sym (numbers_absent same_laws same_exact vs (arrivals_of same_value vs) v 0 none (among_arrivals same_laws same_exact vs)))
]

-- a row more, and a row less, at the lists themselves
lists_push : (lists : List (List ℕ)) (vs : List Value) (v : Value) → AreRowsById lists (ids_of same_value vs) (length (arrivals_of same_value vs)) → AreRowsById (with_row lists (id_among same_value (arrivals_of same_value vs) v) (length vs)) (ids_of same_value (vs ++ v ∷ [])) (length (arrivals_of same_value (vs ++ v ∷ [])))
lists_push lists vs v a =
    let ks = arrivals_of same_value vs in
    let id = id_among same_value ks v in
    let more = by_id_push lists (ids_of same_value vs) id (length ks) (length (arrive same_value ks v)) a
    (count_known same_laws same_exact ks v)
    (λ past. let next = count_next same_laws same_exact ks v past in (next.0, next.1, id_unused same_laws same_exact vs ks id (among_arrivals same_laws same_exact vs) past)) in
    rw (ids_push same_laws same_exact vs v, arrivals_push same_laws same_exact vs v, ← length_ids same_laws same_exact vs) more

lists_pop : (lists : List (List ℕ)) (us : List Value) (v : Value) → AreRowsById lists (ids_of same_value (us ++ v ∷ [])) (length (arrivals_of same_value (us ++ v ∷ []))) → AreRowsById (without_row lists (id_among same_value (arrivals_of same_value us) v) (length (arrivals_of same_value us))) (ids_of same_value us) (length (arrivals_of same_value us))
lists_pop lists us v a =
    let ks = arrivals_of same_value us in
    by_id_pop lists (ids_of same_value us) (id_among same_value ks v) (length ks) (length (arrive same_value ks v))
    (rw (← ids_push same_laws same_exact us v, ← arrivals_push same_laws same_exact us v) a)
    (count_known same_laws same_exact ks v) (count_next same_laws same_exact ks v)

pub index_push : (docs docs' : Option (List (List ℕ))) (vs vs' : List Value) (v : Value) (id row : ℕ) → IsIndex docs vs → vs' ≡ vs ++ v ∷ [] → id ≡ id_among same_value (arrivals_of same_value vs') v → row ≡ length vs → docs' ≡ option_map (λ old. with_row old id row) docs → IsIndex docs' vs'
index_push None docs' vs vs' v id row a e f g h = subst (λ d. IsIndex d vs') (sym h) tt
index_push (Some lists) docs' vs vs' v id row a e f g h =
    let id_is : id ≡ id_among same_value (arrivals_of same_value vs) v =
    f ∙ ap (λ l. id_among same_value (arrivals_of same_value l) v) e
    ∙ ap (λ ks. id_among same_value ks v) (arrivals_push same_laws same_exact vs v)
    ∙ id_arrived same_laws same_exact (arrivals_of same_value vs) v in
    rw (h, id_is, g, e) (lists_push lists vs v a)

last_id : (us vs : List Value) (v : Value) → vs ≡ us ++ v ∷ [] → get_or (ids_of same_value vs) (length (ids_of same_value vs) - 1) 0 ≡ id_among same_value (arrivals_of same_value us) v
last_id us vs v e =
    let ids_are : ids_of same_value vs ≡ ids_of same_value us ++ id_among same_value (arrivals_of same_value us) v ∷ [] = ap (ids_of same_value) e ∙ ids_push same_laws same_exact us v in
    let place : length (ids_of same_value us) ≡ length (ids_of same_value vs) - 1 =
    omega (arith, ap length ids_are, length_push (ids_of same_value us) (id_among same_value (arrivals_of same_value us) v)) in
    ap (λ l. get_or l (length (ids_of same_value vs) - 1) 0) ids_are ∙ get_or_push (ids_of same_value us) _ 0 (length (ids_of same_value vs) - 1) place

pop_at : (docs docs' : Option (List (List ℕ))) (us vs vs' : List Value) (v : Value) (id count : ℕ) → IsIndex docs vs → vs ≡ us ++ v ∷ [] → vs' ≡ us → id ≡ get_or (ids_of same_value vs) (length (ids_of same_value vs) - 1) 0 → count ≡ length (arrivals_of same_value vs') → docs' ≡ option_map (λ old. without_row old id count) docs → IsIndex docs' vs'
pop_at None docs' us vs vs' v id count a split e f g h = subst (λ d. IsIndex d vs') (sym h) tt
pop_at (Some lists) docs' us vs vs' v id count a split e f g h =
    let id_is : id ≡ id_among same_value (arrivals_of same_value us) v = f ∙ last_id us vs v split in
    let count_is : count ≡ length (arrivals_of same_value us) = g ∙ ap (λ l. length (arrivals_of same_value l)) e in
    rw (h, id_is, count_is, e) (lists_pop lists us v (subst (λ l. AreRowsById lists (ids_of same_value l) (length (arrivals_of same_value l))) split a))

pub index_pop : (docs docs' : Option (List (List ℕ))) (vs vs' : List Value) (id count : ℕ) → IsIndex docs vs → 0 < length vs → vs' ≡ take (length vs - 1) vs → id ≡ get_or (ids_of same_value vs) (length (ids_of same_value vs) - 1) 0 → count ≡ length (arrivals_of same_value vs') → docs' ≡ option_map (λ old. without_row old id count) docs → IsIndex docs' vs'
index_pop docs docs' vs vs' id count a some e f g h =
    let split = last_split vs some in
    pop_at docs docs' split.0 vs vs' split.1 id count a split.2 (e ∙ take_front vs split.0 split.1 split.2) f g h

-- fewer values are left than there are lists
fewer : (us vs : List Value) (v : Value) → vs ≡ us ++ v ∷ [] → length (arrivals_of same_value us) ≤ length (arrivals_of same_value vs)
fewer us vs v e = subst (λ ks. length (arrivals_of same_value us) ≤ length ks) (sym (ap (arrivals_of same_value) e ∙ arrivals_push same_laws same_exact us v)) (grows_arrive (arrivals_of same_value us) v)
  where
    grows_arrive : (ks : List Value) (v : Value) → length ks ≤ length (arrive same_value ks v)
    grows_arrive ks v = elim (cases_Bool (list_any (same_value v) ks)) [
      | inl there ↦ omega (arith, ap length (cond-true _ ks (ks ++ v ∷ []) there))
      | inr none ↦ omega (arith, ap length (cond-false _ ks (ks ++ v ∷ []) none), length_push ks v)
    ]

pub enough_lists : (docs : Option (List (List ℕ))) (vs vs' : List Value) (count : ℕ) → IsIndex docs vs → 0 < length vs → vs' ≡ take (length vs - 1) vs → count ≡ length (arrivals_of same_value vs') → IfSome docs (λ old. count ≤ length old)
enough_lists None vs vs' count a some e g = tt
enough_lists (Some lists) vs vs' count a some e g =
    let split = last_split vs some in
    omega (arith, a.size, g, ap (λ l. length (arrivals_of same_value l)) (e ∙ take_front vs split.0 split.1 split.2), fewer split.0 vs split.1 split.2)
