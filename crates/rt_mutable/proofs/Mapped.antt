-- Values of one kind, and the same values as values of any kind.
use Rattle.std.proofs.Common.{◌≡◌, ℕ, ◌+◌, Bool, true, false, not, cond, ◌||◌, List, [], ◌∷◌, ◌++◌, length, map, take, fold, slice_get, Some, None, nat_lt, position, option_map, refl, sym, ap, ◌∙◌, arith, IfOk, ◌-◌, ◌<◌, Result, Ok, Err}
use Rattle.std.specs.List.{list_any}
use Rattle.std.proofs.lemmas.Bool.{cond-true, cond-false}
use Rattle.std.proofs.lemmas.List.{map_push, length-map, take-map}
use Rattle.std.proofs.lemmas.Option.{slice_get-map}
use Rattle.rt_mutable.specs.Arrivals.{arrive, arrivals_of, id_among, ids_of}

module _ {K X : Type 0} (eq : K → K → Bool) (same : X → X → Bool) (f : K → X) (one : (a b : K) → same (f a) (f b) ≡ eq a b) where
  any_map : (ks : List K) (v : K) → list_any (same (f v)) (map f ks) ≡ list_any (eq v) ks
  any_map [] v = refl
  any_map (k ∷ ks) v = (λ j. one v k j || any_map ks v j)

  map_arrive : (ks : List K) (v : K) → map f (arrive eq ks v) ≡ arrive same (map f ks) (f v)
  map_arrive ks v = by (list_any (eq v) ks) refl
    where
      by : (b : Bool) → list_any (eq v) ks ≡ b → map f (arrive eq ks v) ≡ arrive same (map f ks) (f v)
      by true e = ap (map f) (cond-true _ ks (ks ++ v ∷ []) e) ∙ sym (cond-true _ _ _ (any_map ks v ∙ e))
      by false e = ap (map f) (cond-false _ ks (ks ++ v ∷ []) e) ∙ map_push f ks v ∙ sym (cond-false _ _ _ (any_map ks v ∙ e))

  map_fold : (vs ks : List K) → map f (fold (arrive eq) ks vs) ≡ fold (arrive same) (map f ks) (map f vs)
  map_fold [] ks = refl
  map_fold (v ∷ vs) ks = map_fold vs (arrive eq ks v) ∙ ap (λ l. fold (arrive same) l (map f vs)) (map_arrive ks v)

  pub map_arrivals : (vs : List K) → map f (arrivals_of eq vs) ≡ arrivals_of same (map f vs)
  map_arrivals vs = map_fold vs []

  map_id : (ks : List K) (v : K) → id_among same (map f ks) (f v) ≡ id_among eq ks v
  map_id [] v = refl
  map_id (k ∷ ks) v = (λ j. cond (not (one v k j)) (1 + map_id ks v j) 0)

  ids_map : (ks vs : List K) → map (id_among eq ks) vs ≡ map (id_among same (map f ks)) (map f vs)
  ids_map ks [] = refl
  ids_map ks (v ∷ vs) = (λ j. sym (map_id ks v) j ∷ ids_map ks vs j)

  pub map_ids : (vs : List K) → ids_of eq vs ≡ ids_of same (map f vs)
  map_ids vs = ids_map (arrivals_of eq vs) vs ∙ ap (λ l. map (id_among same l) (map f vs)) (map_arrivals vs)

  pub length_mapped : (vs : List K) → length (arrivals_of eq vs) ≡ length (arrivals_of same (map f vs))
  length_mapped vs = sym (length-map (arrivals_of eq vs) f) ∙ ap length (map_arrivals vs)

  -- a value by its id
  pub within_mapped : (vs : List K) (id : ℕ) → id < length (arrivals_of same (map f vs)) → id < length (arrivals_of eq vs)
  within_mapped vs id h = omega (arith, h, ap length (map_arrivals vs), length-map (arrivals_of eq vs) f)

  pub value_mapped : (vs : List K) (id : ℕ) (v : K) → slice_get (arrivals_of eq vs) id ≡ Some v → slice_get (arrivals_of same (map f vs)) id ≡ Some (f v)
  value_mapped vs id v h = ap (λ l. slice_get l id) (sym (map_arrivals vs)) ∙ slice_get-map f (arrivals_of eq vs) id ∙ ap (option_map f) h

  position_map : (ks : List K) (v : K) → position (eq v) ks ≡ position (same (f v)) (map f ks)
  position_map ks v =
      (λ j. cond (nat_lt (sym (map_id ks v) j) (sym (length-map ks f) j)) (Some (sym (map_id ks v) j)) None)

  pub position_mapped : (vs : List K) (v : K) → position (eq v) (arrivals_of eq vs) ≡ position (same (f v)) (arrivals_of same (map f vs))
  position_mapped vs v = position_map (arrivals_of eq vs) v ∙ ap (position (same (f v))) (map_arrivals vs)

  -- the id that a push answers
  pub id_mapped : {E : Type 0} (vs : List K) (v : K) (r : Result ℕ E) → IfOk r (λ id. id ≡ id_among eq (arrivals_of eq vs) v) → IfOk r (λ id. id ≡ id_among same (arrivals_of same (map f vs)) (f v))
  id_mapped vs v (Ok id) h = h ∙ sym (map_id (arrivals_of eq vs) v) ∙ ap (λ l. id_among same l (f v)) (map_arrivals vs)
  id_mapped vs v (Err e) h = tt

-- all but the last
pub front_mapped : {K X : Type 0} (f : K → X) (vs us : List K) → us ≡ take (length vs - 1) vs → map f us ≡ take (length (map f vs) - 1) (map f vs)
front_mapped f vs us h =
    ap (map f) h ∙ sym (take-map f (length vs - 1) vs) ∙ ap (λ n. take (n - 1) (map f vs)) (sym (length-map vs f))
