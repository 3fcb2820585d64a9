-- The ids of the keys of a list, which are found as its keys are taken in their order.
use Rattle.std.proofs.Common.{◌≡◌, ℕ, ◌+◌, ◌-◌, ◌<◌, ◌≤◌, Bool, cond, List, [], ◌∷◌, ◌++◌, length, map, set, Some, Option, Result, Ok, Err, get_or, slice_get, refl, sym, ap, ◌∙◌, subst, inl, inr, arith}
use Rattle.std.specs.Prelude.{IfOk}
use Rattle.std.specs.List.{All, Contains, range_with_len}
use Rattle.std.specs.List.Sorted.{IsSortedBy, IsPermutation}
use Rattle.std.proofs.Math.Seq.{get_or-append_seam}
use Rattle.std.proofs.lemmas.Bool.{cases_Bool, cases_eq, cond_both}
use Rattle.std.proofs.lemmas.List.{get_or_append_left, length-append, length-map, get_or-map, get_or-set_same, get_or-set_other, same_lists, map-append}
use Rattle.std.proofs.lemmas.List.FromFn.{get_or-range_with_len, length-range_with_len, map-range_with_len_more}
use Rattle.std.proofs.lemmas.List.Elements.{All-push, All-weaker}
use Rattle.std.proofs.lemmas.List.Sorted.{Contains-permutation}
use Rattle.std.proofs.lemmas.Option.{slice_get-get_or, slice_get_within, get_or_from_slice_get, same_Some}
use Rattle.rt_dict.specs.Order.{IsStrictOrder}
use Rattle.rt_dict.specs.Values.{AreDistinctValues, AreIdsOf, is_past_last}
use Rattle.rt_dict.proofs.Distinct.{past_more, same_more, same_last}

-- the distinct values with a key more, where it is past the last one
abbrev pub with_key : {K : Type 0} → (K → K → Bool) → List K → K → List K
with_key below distinct key = cond (is_past_last below distinct key) (distinct ++ key ∷ []) distinct

pub with_key_few : {K : Type 0} (below : K → K → Bool) (distinct : List K) (key : K) → length (with_key below distinct key) ≤ length distinct + 1
with_key_few below distinct key = cond_both (is_past_last below distinct key) (distinct ++ key ∷ []) distinct (λ l. length l ≤ length distinct + 1) (λ _. omega (arith, length-append distinct (key ∷ []))) (λ _. omega arith)

slice_get_front : {K : Type 0} (xs ys : List K) (i : ℕ) (x : K) → slice_get xs i ≡ Some x → slice_get (xs ++ ys) i ≡ Some x
slice_get_front xs ys i x at =
    let lt = slice_get_within xs i x at in
    slice_get-get_or (xs ++ ys) i x (omega (arith, length-append xs ys)) ∙ ap Some (get_or_append_left xs ys x i lt ∙ get_or_from_slice_get xs i x x at)

module _ {K X : Type 0} (key : X → K) (place : X → ℕ) (keys : List K) where
  -- an item stands for the key at its place, to which its id leads
  abbrev pub IsPlaced : X → Type 0
  IsPlaced x = slice_get keys (place x) ≡ Some (key x)

  abbrev pub Leads : List K → List ℕ → X → Type 0
  Leads distinct ids x = slice_get distinct (get_or ids (place x) 0) ≡ Some (key x)

  pub placed_at : (front rest : List X) (x : X) (all : List X) → front ++ x ∷ rest ≡ all → All IsPlaced all → IsPlaced x
  placed_at front rest x all e h =
      subst IsPlaced (ap (λ l. get_or l (length front) x) (sym e) ∙ get_or-append_seam front x rest x) (h (length front) x (omega (arith, ap length e, length-append front (x ∷ rest))))

  module _ {below : K → K → Bool} (order : IsStrictOrder below) (front rest : List X) (x : X) (sorted : IsSortedBy below (map key (front ++ x ∷ rest))) (distinct : List K) (kept : AreDistinctValues below (map key front) distinct) where
    row : IsSortedBy below (map key front ++ key x ∷ map key rest)
    row = subst (IsSortedBy below) (map-append key front (x ∷ rest)) sorted

    pub distinct_more : AreDistinctValues below (map key (front ++ x ∷ [])) (with_key below distinct (key x))
    distinct_more = subst (λ f. AreDistinctValues below f (with_key below distinct (key x))) (sym (map-append key front (x ∷ []))) (elim (cases_Bool (is_past_last below distinct (key x))) [
      | inl past ↦ subst (λ b. AreDistinctValues below (map key front ++ key x ∷ []) (cond b (distinct ++ key x ∷ []) distinct)) (sym past) (past_more order (map key front) (map key rest) (key x) row distinct kept past)
      | inr same ↦ subst (λ b. AreDistinctValues below (map key front ++ key x ∷ []) (cond b (distinct ++ key x ∷ []) distinct)) (sym same) (same_more order (map key front) (map key rest) (key x) row distinct kept same)
    ])

    last_found : (id : ℕ) → id + 1 ≡ length (with_key below distinct (key x)) → slice_get (with_key below distinct (key x)) id ≡ Some (key x)
    last_found id e = elim (cases_Bool (is_past_last below distinct (key x))) [
      | inl past ↦
          let new : with_key below distinct (key x) ≡ distinct ++ key x ∷ [] = ap (λ b. cond b (distinct ++ key x ∷ []) distinct) past in
          let at : id ≡ length distinct = omega (arith, e, ap length new, length-append distinct (key x ∷ [])) in
          ap (λ l. slice_get l id) new ∙ ap (slice_get (distinct ++ key x ∷ [])) at ∙ slice_get-get_or (distinct ++ key x ∷ []) (length distinct) (key x) (omega (arith, length-append distinct (key x ∷ []))) ∙ ap Some (get_or-append_seam distinct (key x) [] (key x))
      | inr same ↦
          let old : with_key below distinct (key x) ≡ distinct = ap (λ b. cond b (distinct ++ key x ∷ []) distinct) same in
          let at : id ≡ length distinct - 1 = omega (arith, e, ap length old) in
          ap (λ l. slice_get l id) old ∙ ap (slice_get distinct) at ∙ same_last order (map key front) (map key rest) (key x) row distinct kept same
    ]

    still_found : (i : ℕ) (k : K) → slice_get distinct i ≡ Some k → slice_get (with_key below distinct (key x)) i ≡ Some k
    still_found i k at = elim (cases_Bool (is_past_last below distinct (key x))) [
      | inl past ↦ ap (λ b. slice_get (cond b (distinct ++ key x ∷ []) distinct) i) past ∙ slice_get_front distinct (key x ∷ []) i k at
      | inr same ↦ ap (λ b. slice_get (cond b (distinct ++ key x ∷ []) distinct) i) same ∙ at
    ]

    pub ids_more : (ids : List ℕ) (id : ℕ) → length ids ≡ length keys → IsPlaced x → id + 1 ≡ length (with_key below distinct (key x)) → All (λ y. IsPlaced y × Leads distinct ids y) front → All (λ y. IsPlaced y × Leads (with_key below distinct (key x)) (set ids (place x) id) y) (front ++ x ∷ [])
    ids_more ids id size here e all = All-push (λ y. IsPlaced y × Leads (with_key below distinct (key x)) (set ids (place x) id) y) front x
        (All-weaker (λ y. IsPlaced y × Leads distinct ids y) (λ y. IsPlaced y × Leads (with_key below distinct (key x)) (set ids (place x) id) y) (λ y h. (h.0, led y h.0 h.1)) front all)
        (here, at_place x refl refl)
      where
        within : place x < length ids
        within = omega (arith, size, slice_get_within keys (place x) (key x) here)

        at_place : (y : X) → place y ≡ place x → key y ≡ key x → Leads (with_key below distinct (key x)) (set ids (place x) id) y
        at_place y p k =
            ap (λ i. slice_get (with_key below distinct (key x)) (get_or (set ids (place x) id) i 0)) p
            ∙ ap (slice_get (with_key below distinct (key x))) (get_or-set_same ids (place x) id 0 within) ∙ last_found id e ∙ ap Some (sym k)

        led : (y : X) → IsPlaced y → Leads distinct ids y → Leads (with_key below distinct (key x)) (set ids (place x) id) y
        led y placed leads = elim (cases_eq (place y) (place x)) [
          | inl same ↦ at_place y same (same_Some (key y) (key x) (sym placed ∙ ap (slice_get keys) same ∙ here))
          | inr apart ↦ ap (slice_get (with_key below distinct (key x))) (get_or-set_other ids (place x) (place y) id 0 apart) ∙ still_found (get_or ids (place y) 0) (key y) leads
        ]

  -- the list as it came has each key at its place
  pub came_placed : (came : List X) → map key came ≡ keys → map place came ≡ range_with_len 0 (length keys) → All IsPlaced came
  came_placed came is places i x lt =
      let there : i < length keys = omega (arith, ap length is, length-map came key, lt) in
      let at : place (get_or came i x) ≡ i = sym (get_or-map place came i x 0 lt) ∙ ap (λ l. get_or l i 0) places ∙ get_or-range_with_len 0 (length keys) i 0 there ∙ omega arith in
      ap (slice_get keys) at ∙ slice_get-get_or keys i (key x) there ∙ ap Some (ap (λ l. get_or l i (key x)) (sym is) ∙ get_or-map key came i x (key x) lt)

  module _ (sorted : List X) (placed : All IsPlaced sorted) (places : IsPermutation (range_with_len 0 (length keys)) (map place sorted)) where
    -- each place is that of an item
    place_of : (k : ℕ) → k < length keys → Contains (map place sorted) k
    place_of k lt = Contains-permutation (range_with_len 0 (length keys)) (map place sorted) k places
        (k, omega (arith, length-range_with_len 0 (length keys), lt), get_or-range_with_len 0 (length keys) k k lt ∙ omega arith)

    pub are_ids : (distinct : List K) (ids : List ℕ) → length ids ≡ length keys → All (Leads distinct ids) sorted → AreIdsOf distinct keys ids
    are_ids distinct ids same leads = same_lists (map (slice_get distinct) ids) (map Some keys) lengths (λ k d lt. by k d (omega (arith, lt, length-map ids (slice_get distinct), same)) sorted refl)
      where
        lengths : length (map (slice_get distinct) ids) ≡ length (map Some keys)
        lengths = length-map ids (slice_get distinct) ∙ same ∙ sym (length-map keys Some)

        by : (k : ℕ) (d : Option K) → k < length keys → (all : List X) → all ≡ sorted → get_or (map (slice_get distinct) ids) k d ≡ get_or (map Some keys) k d
        by k d lt [] e = let at = place_of k lt in absurd (omega (arith, at.1, length-map sorted place, ap length e))
        by k d lt (y ∷ ys) e =
            let at = place_of k lt in
            let within : at.0 < length sorted = omega (arith, at.1, length-map sorted place) in
            let x = get_or sorted at.0 y in
            let here : place x ≡ k = sym (get_or-map place sorted at.0 y k within) ∙ at.2 in
            let found : slice_get distinct (get_or ids k 0) ≡ Some (key x) = ap (λ i. slice_get distinct (get_or ids i 0)) (sym here) ∙ leads at.0 y within in
            let stands : slice_get keys k ≡ Some (key x) = ap (slice_get keys) (sym here) ∙ placed at.0 y within in
            get_or-map (slice_get distinct) ids k 0 d (omega (arith, same, lt)) ∙ found ∙ sym stands ∙ slice_get-get_or keys k (key x) lt ∙ sym (get_or-map Some keys k (key x) d lt)

pub range_more : (a n j : ℕ) → a + n ≡ j → range_with_len a (n + 1) ≡ range_with_len a n ++ j ∷ []
range_more a n j e = sym (map_same (range_with_len a (n + 1))) ∙ map-range_with_len_more (λ k. k) a n j e ∙ ap (λ l. l ++ j ∷ []) (map_same (range_with_len a n))
  where
    map_same : (l : List ℕ) → map (λ k. k) l ≡ l
    map_same [] = refl
    map_same (x ∷ xs) = ap (λ ys. x ∷ ys) (map_same xs)

-- what follows from two facts of a value that was answered
pub in_both : {X E : Type 0} (P Q S : X → Type 0) → ((x : X) → P x → Q x → S x) → (r : Result X E) → IfOk r P → IfOk r Q → IfOk r S
in_both P Q S f (Ok x) p q = f x p q
in_both P Q S f (Err e) p q = tt
