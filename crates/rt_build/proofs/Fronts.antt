-- The first rows of a column: their distinct values are the first ones, and their ids are the same.
use Rattle.std.proofs.Common.{◌≡◌, ℕ, zero, suc, ◌+◌, ◌<◌, ◌≤◌, max, Bool, true, List, [], ◌∷◌, ◌++◌, length, map, take, drop, fold, get_or, slice_get, Some, Contains, Any, All, option_map, refl, sym, ap, subst, ◌∙◌, inl, inr, arith, take_all, take_at, take-take}
use Rattle.std.specs.Cmp.{IsEquivalence}
use Rattle.std.specs.List.{list_any, AllByRecursion}
use Rattle.std.proofs.lemmas.Bool.{cases_lt, cond_both}
use Rattle.std.proofs.lemmas.List.{take-append-drop, take-map, length_push, length-map}
use Rattle.std.proofs.lemmas.List.Sums.{fold-append}
use Rattle.std.proofs.lemmas.List.Folds.{list_any_at, Any-from_list_any}
use Rattle.std.proofs.lemmas.List.Elements.{All-from_recursion}
use Rattle.std.proofs.lemmas.Option.{slice_get-get_or, slice_get_within, get_or_from_slice_get, slice_get-map, same_Some}
use Rattle.rt_dict.specs.Values.{AreDistinctValues, AreIdsOf}
use Rattle.rt_mutable.specs.Arrivals.{arrive, arrivals_of, id_among, ids_of}
use Rattle.rt_mutable.proofs.Arriving.{AreAmong, kept_one, id_kept, arrived_one, id_arrived, among_arrivals, found, id_within, came, value_of_row, length_arrivals}
use Rattle.rt_mutable.proofs.RowNumbers.{count_known, count_next}
use Rattle.rt_build.specs.Renumbered.{next_id, renumbered, AreSorted}

pub contains_found : {X : Type 0} (xs : List X) (i : ℕ) (x : X) → slice_get xs i ≡ Some x → Contains xs x
contains_found xs i x h = (i, slice_get_within xs i x h, get_or_from_slice_get xs i x x h)

pub found_contains : {X : Type 0} (xs : List X) (x : X) (at : Contains xs x) → slice_get xs at.0 ≡ Some x
found_contains xs x at = slice_get-get_or xs at.0 x at.1 ∙ ap Some at.2

module _ {K : Type 0} {eq : K → K → Bool} (laws : IsEquivalence eq) (exact : (x y : K) → eq x y ≡ true → x ≡ y) where
  kept_fold : (vs ks : List K) (v : K) → list_any (eq v) ks ≡ true → id_among eq (fold (arrive eq) ks vs) v ≡ id_among eq ks v
  kept_fold [] ks v h = refl
  kept_fold (x ∷ vs) ks v h = kept_fold vs (arrive eq ks x) v (kept_one laws exact ks x v h) ∙ id_kept laws exact ks x v h

  arrive_grows : (ks : List K) (x : K) → length ks ≤ length (arrive eq ks x)
  arrive_grows ks x = cond_both (list_any (eq x) ks) ks (ks ++ x ∷ []) (λ l. length ks ≤ length l) (λ _. omega arith) (λ _. omega (arith, length_push ks x))

  arrive_front : (ks : List K) (x : K) → take (length ks) (arrive eq ks x) ≡ ks
  arrive_front ks x = cond_both (list_any (eq x) ks) ks (ks ++ x ∷ []) (λ l. take (length ks) l ≡ ks) (λ _. take_all (length ks) ks (omega arith)) (λ _. take_at ks (x ∷ []) (length ks) refl)

  fold_front : (vs ks : List K) → take (length ks) (fold (arrive eq) ks vs) ≡ ks
  fold_front [] ks = take_all (length ks) ks (omega arith)
  fold_front (x ∷ vs) ks =
      sym (take-take (length ks) (length (arrive eq ks x)) (fold (arrive eq) (arrive eq ks x) vs) (arrive_grows ks x))
      ∙ ap (take (length ks)) (fold_front vs (arrive eq ks x)) ∙ arrive_front ks x

  next_arrive : (ks : List K) (u : K) → max (length ks) (id_among eq ks u + 1) ≡ length (arrive eq ks u)
  next_arrive ks u = elim (cases_lt (id_among eq ks u) (length ks)) [
    | inl lt ↦ omega (arith, count_known laws exact ks u lt)
    | inr past ↦ (let next = count_next laws exact ks u past in omega (arith, next.0, next.1))
  ]

  next_fold : (us ks : List K) → fold (λ next id. max next (id + 1)) (length ks) (map (id_among eq (fold (arrive eq) ks us)) us) ≡ length (fold (arrive eq) ks us)
  next_fold [] ks = refl
  next_fold (u ∷ us) ks =
      let all = fold (arrive eq) (arrive eq ks u) us in
      let first : id_among eq (fold (arrive eq) (arrive eq ks u) us) u ≡ id_among eq ks u =
      kept_fold us (arrive eq ks u) u (arrived_one laws exact ks u) ∙ id_arrived laws exact ks u in
      ap (λ n. fold (λ next id. max next (id + 1)) n (map (id_among eq (fold (arrive eq) (arrive eq ks u) us)) us)) (ap (λ i. max (length ks) (i + 1)) first ∙ next_arrive ks u)
      ∙ next_fold us (arrive eq ks u)

  pub next_of : (us : List K) → next_id (ids_of eq us) ≡ length (arrivals_of eq us)
  next_of us = next_fold us []

  ids_fold : (us ks ws : List K) → AreAmong laws exact ks us → map (id_among eq (fold (arrive eq) ks ws)) us ≡ map (id_among eq ks) us
  ids_fold [] ks ws h = refl
  ids_fold (u ∷ us) ks ws h = (λ j. kept_fold ws ks u h.0 j ∷ ids_fold us ks ws h.1 j)

  arrivals_split : (vs : List K) (n : ℕ) → arrivals_of eq vs ≡ fold (arrive eq) (arrivals_of eq (take n vs)) (drop n vs)
  arrivals_split vs n = ap (arrivals_of eq) (sym (take-append-drop n vs)) ∙ fold-append (arrive eq) [] (take n vs) (drop n vs)

  -- the first rows have the first distinct values
  pub front_keys : (vs : List K) (n : ℕ) → take (length (arrivals_of eq (take n vs))) (arrivals_of eq vs) ≡ arrivals_of eq (take n vs)
  front_keys vs n = ap (take (length (arrivals_of eq (take n vs)))) (arrivals_split vs n) ∙ fold_front (drop n vs) (arrivals_of eq (take n vs))

  -- and the same ids among them
  pub front_ids : (vs : List K) (n : ℕ) → take n (ids_of eq vs) ≡ ids_of eq (take n vs)
  front_ids vs n =
      take-map (id_among eq (arrivals_of eq vs)) n vs
      ∙ ap (λ ks. map (id_among eq ks) (take n vs)) (arrivals_split vs n)
      ∙ ids_fold (take n vs) (arrivals_of eq (take n vs)) (drop n vs) (among_arrivals laws exact (take n vs))

  contains_arrivals : (vs : List K) (v : K) → Contains vs v → Contains (arrivals_of eq vs) v
  contains_arrivals vs v at = contains_found (arrivals_of eq vs) _ v (value_of_row laws exact vs at.0 at.1 ∙ found_contains vs v at)

  any_itself : (ks : List K) (v : K) → Contains ks v → list_any (eq v) ks ≡ true
  any_itself ks v at = list_any_at (eq v) ks at.0 v at.1 (ap (eq v) at.2 ∙ laws.refl v)

  arrivals_contain : (vs : List K) (v : K) → Contains (arrivals_of eq vs) v → Contains vs v
  arrivals_contain vs v at = here (Any-from_list_any (eq v) vs (came laws exact vs [] v (any_itself (arrivals_of eq vs) v at)))
    where
      here : Any (λ x. eq v x ≡ true) vs → Contains vs v
      here any = subst (Contains vs) (sym (exact v any.1 any.4)) (any.0, any.2, any.3)

  -- so a dictionary of the distinct values is one of the values
  pub distinct_values : (below : K → K → Bool) (vs dictionary : List K) → AreDistinctValues below (arrivals_of eq vs) dictionary → AreDistinctValues below vs dictionary
  distinct_values below vs dictionary d = record {
    ascending = d.ascending;
    each_stands = λ v at. d.each_stands v (contains_arrivals vs v at);
    none_else = λ v at. arrivals_contain vs v (d.none_else v at);
  }

  known_by_recursion : (vs ks : List K) → AreAmong laws exact ks vs → AllByRecursion (λ id. id < length ks) (map (id_among eq ks) vs)
  known_by_recursion [] ks h = tt
  known_by_recursion (v ∷ vs) ks h = (id_within laws exact ks v h.0, known_by_recursion vs ks h.1)

  pub known_ids : (vs : List K) → All (λ id. id < length (arrivals_of eq vs)) (ids_of eq vs)
  known_ids vs = All-from_recursion (λ id. id < length (arrivals_of eq vs)) (ids_of eq vs) (known_by_recursion vs (arrivals_of eq vs) (among_arrivals laws exact vs))

  -- the new id of an old one leads to the same key
  new_at : (dictionary ks : List K) (table : List ℕ) (id : ℕ) (v : K) → AreIdsOf dictionary ks table → slice_get ks id ≡ Some v → slice_get dictionary (get_or table id 0) ≡ Some v
  new_at dictionary ks table id v ids at =
      let size : length table ≡ length ks = sym (length-map table (slice_get dictionary)) ∙ ap length ids ∙ length-map ks Some in
      let there : slice_get table id ≡ Some (get_or table id 0) = slice_get-get_or table id 0 (omega (arith, size, slice_get_within ks id v at)) in
      same_Some _ _ (ap (option_map (slice_get dictionary)) (sym there) ∙ sym (slice_get-map (slice_get dictionary) table id) ∙ ap (λ l. slice_get l id) ids ∙ slice_get-map Some ks id ∙ ap (option_map Some) at)

  renumbered_all : (dictionary ks : List K) (table : List ℕ) (vs : List K) → AreIdsOf dictionary ks table → AreAmong laws exact ks vs → AreIdsOf dictionary vs (renumbered table (map (id_among eq ks) vs))
  renumbered_all dictionary ks table [] ids h = refl
  renumbered_all dictionary ks table (v ∷ vs) ids h =
      (λ j. new_at dictionary ks table (id_among eq ks v) v ids (found laws exact ks v h.0) j ∷ renumbered_all dictionary ks table vs ids h.1 j)

  pub are_sorted : (below : K → K → Bool) (vs dictionary : List K) (table new : List ℕ) → AreDistinctValues below (arrivals_of eq vs) dictionary → AreIdsOf dictionary (arrivals_of eq vs) table → new ≡ renumbered table (ids_of eq vs) → AreSorted below vs dictionary new
  are_sorted below vs dictionary table new d ids e = record {
    distinct = distinct_values below vs dictionary d;
    identified = subst (AreIdsOf dictionary vs) (sym e) (renumbered_all dictionary (arrivals_of eq vs) table vs ids (among_arrivals laws exact vs));
  }

  pub few_keys : (vs : List K) (n : ℕ) → length (arrivals_of eq (take n vs)) ≤ n
  few_keys vs n = omega (arith, length_arrivals laws exact (take n vs), length_take vs n)
    where
      length_take : (vs : List K) (n : ℕ) → length (take n vs) ≤ n
      length_take vs zero = omega arith
      length_take [] (suc n) = omega arith
      length_take (v ∷ vs) (suc n) = omega (arith, length_take vs n)
