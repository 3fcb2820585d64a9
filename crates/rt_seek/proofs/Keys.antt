-- Tests on the keys of a dictionary, by ranges of ids.
use Rattle.std.proofs.Common.{◌≡◌, ℕ, zero, suc, ◌+◌, ◌<◌, ◌≤◌, Bool, true, false, not, List, [], ◌∷◌, ◌++◌, length, map, take, drop, set, replicate, get_or, slice_get, Option, Some, None, refl, ap, sym, ◌∙◌, inl, inr, arith}
use Rattle.std.specs.Prelude.{◌↔◌, ◌||◌, ◌&&◌}
use Rattle.std.specs.declared.cmp.Ordering.{Ordering}
use Rattle.std.specs.declared.cmp.Ordering.TheVariants as ordering
use Rattle.std.specs.Ordering.{is_lt, is_gt}
use Rattle.std.specs.List.{range_with_len}
use Rattle.std.proofs.lemmas.Bool.{cases_eq, and_parts, and_from, not-true, leb-true, ltb-true, le-leb, lt-ltb}
use Rattle.std.proofs.lemmas.List.{same_lists, length-map, length-set, get_or-set_same, get_or-set_other, get_or_default, take_at, drop_more, drop_all}
use Rattle.std.proofs.Math.ListN.{get_or-map}
use Rattle.std.proofs.lemmas.List.FromFn.{length-map-range_with_len, get_or-map-range_with_len}
use Rattle.std.proofs.lemmas.Option.{slice_get_within, get_or_from_slice_get, same_Some, none-some}
use Rattle.std.proofs.lemmas.Bool.{or_right, false_from_ne_true}
use Rattle.rt_dict.specs.declared.edge.Edge.{Edge}
use Rattle.rt_dict.specs.declared.edge.Edge.TheVariants.{At}
use Rattle.rt_dict.specs.Order.{IsStrictOrder}
use Rattle.rt_dict.specs.Range.{IsWithin}
use Rattle.rt_postings.specs.DocSet.{either}
use Rattle.rt_model.specs.declared.query_parts.Comparison.{Comparison}
use Rattle.rt_model.specs.declared.query_parts.Comparison.TheVariants.{Equal, NotEqual, Less, AtMost, Greater, AtLeast}
use Rattle.rt_model.specs.declared.query_parts.Literal.{Literal}
use Rattle.rt_model.specs.Match.{accepted, accepts}
use Rattle.rt_seek.specs.Keys.{StandsTo, same_key, compares_keys, is_within, is_between, key_accepted, lies_between_by, equals_one}
use Rattle.rt_seek.proofs.Sets.{map_agree, map_take_more, length_either, get_or_either, either_assoc, either_maps, either_none, none_either}

pub bool_same : (a b : Bool) → (a ≡ true → b ≡ true) → (b ≡ true → a ≡ true) → a ≡ b
bool_same true b to from = sym (to refl)
bool_same false true to from = from refl
bool_same false false to from = refl

or_none : (a b : Bool) → b ≡ false → (a || b) ≡ a
or_none true b e = refl
or_none false b e = e

-- a comparison with a literal is one with its key
module _ {K : Type 0} (below : K → K → Bool) (v key : K) where
  accepts_by : (comparison : Comparison) (o : Ordering) → is_lt o ≡ below v key → is_gt o ≡ below key v → accepts comparison o ≡ compares_keys below comparison v key
  accepts_by Equal ordering.Less lt gt = ap (λ b. not b && not (below key v)) lt
  accepts_by Equal ordering.Equal lt gt = ap (λ b. not b && true) lt ∙ ap (λ b. not (below v key) && not b) gt
  accepts_by Equal ordering.Greater lt gt = ap (λ b. not b && false) lt ∙ ap (λ b. not (below v key) && not b) gt
  accepts_by NotEqual ordering.Less lt gt = ap (λ b. not (not b && not (below key v))) lt
  accepts_by NotEqual ordering.Equal lt gt = ap (λ b. not (not b && true)) lt ∙ ap (λ b. not (not (below v key) && not b)) gt
  accepts_by NotEqual ordering.Greater lt gt = ap (λ b. not (not b && false)) lt ∙ ap (λ b. not (not (below v key) && not b)) gt
  accepts_by Less ordering.Less lt gt = lt
  accepts_by Less ordering.Equal lt gt = lt
  accepts_by Less ordering.Greater lt gt = lt
  accepts_by AtMost ordering.Less lt gt = ap not gt
  accepts_by AtMost ordering.Equal lt gt = ap not gt
  accepts_by AtMost ordering.Greater lt gt = ap not gt
  accepts_by Greater ordering.Less lt gt = gt
  accepts_by Greater ordering.Equal lt gt = gt
  accepts_by Greater ordering.Greater lt gt = gt
  accepts_by AtLeast ordering.Less lt gt = ap not lt
  accepts_by AtLeast ordering.Equal lt gt = ap not lt
  accepts_by AtLeast ordering.Greater lt gt = ap not lt

  pub accepted_by : (comparison : Comparison) (o : Option Ordering) → StandsTo below v key o → accepted comparison o ≡ compares_keys below comparison v key
  accepted_by comparison None s = absurd s
  accepted_by comparison (Some o) s = accepts_by comparison o s.0 s.1

pub item : {X : Type 0} (xs : List X) (k : ℕ) → k < length xs → (v : X) × (slice_get xs k ≡ Some v)
item [] k h = absurd (omega (arith, h))
item (x ∷ xs) zero h = (x, refl)
item (x ∷ xs) (suc k) h = item xs k (omega (arith, h))

pub mapped_at : {X Y : Type 0} (f : X → Y) (xs : List X) (k : ℕ) (d : Y) (v : X) → slice_get xs k ≡ Some v → get_or (map f xs) k d ≡ f v
mapped_at f xs k d v at =
    get_or_default (map f xs) k d (f v) (omega (arith, length-map xs f, slice_get_within xs k v at)) ∙ get_or-map f xs k v ∙ ap f (get_or_from_slice_get xs k v v at)

-- a loop that pushes what a test says of each value
pub one_more : {X Y : Type 0} (f : X → Y) (xs : List X) (i : ℕ) (v : X) (ts us : List Y) (b : Y) → slice_get xs i ≡ Some v → ts ≡ map f (take i xs) → b ≡ f v → us ≡ ts ++ b ∷ [] → us ≡ map f (take (i + 1) xs)
one_more f xs i v ts us b at so_far here pushed =
    pushed ∙ ap (λ bs. bs ++ b ∷ []) so_far ∙ ap (λ c. map f (take i xs) ++ c ∷ []) (here ∙ ap f (sym (get_or_from_slice_get xs i v v at)))
    ∙ sym (map_take_more f xs i v (slice_get_within xs i v at))

-- the truths of a range of ids are those of the values within its edges
module _ {K : Type 0} (below : K → K → Bool) (low high : Edge K) (xs : List K) (start end : ℕ) where
  at_value : (k : ℕ) (v : K) → ((start ≤ k) × (k < end)) ↔ IsWithin below low high v → is_between start end k ≡ is_within below low high v
  at_value k v exact = bool_same _ _
      (λ t. let p = and_parts _ _ t in let e = exact.0 (leb-true start k p.0, ltb-true k end p.1) in and_from _ _ e.0 e.1)
      (λ t. let p = and_parts _ _ t in let e = exact.1 (p.0, p.1) in and_from _ _ (le-leb start k e.0) (lt-ltb k end e.1))

  pub range_truths : ((id : ℕ) (v : K) → slice_get xs id ≡ Some v → ((start ≤ id) × (id < end)) ↔ IsWithin below low high v) →
      map (is_between start end) (range_with_len 0 (length xs)) ≡ map (is_within below low high) xs
  range_truths exact = same_lists _ _ (length-map-range_with_len (is_between start end) 0 (length xs) ∙ sym (length-map xs (is_within below low high))) (λ k d h.
      let inside : k < length xs = omega (arith, h, length-map-range_with_len (is_between start end) 0 (length xs)) in
      let v = item xs k inside in
      get_or-map-range_with_len (is_between start end) 0 (length xs) k k d inside (omega arith)
      ∙ at_value k v.0 (exact k v.0 v.1)
      ∙ sym (mapped_at (is_within below low high) xs k d v.0 v.1))

module _ {K : Type 0} {below : K → K → Bool} (order : IsStrictOrder below) (key : K) where
  pub same_itself : same_key below key key ≡ true
  same_itself = ap (λ b. not b && not b) (order.irreflexive key)

  pub same_is : (v : K) → same_key below v key ≡ true → v ≡ key
  same_is v t = let p = and_parts _ _ t in order.total v key (not-true _ p.0) (not-true _ p.1)

-- the value of an id is marked
module _ {K : Type 0} {below : K → K → Bool} (order : IsStrictOrder below) (xs : List K) (ts : List Bool) (key : K) where
  pub marked_id : (id : ℕ) → length ts ≡ length xs → ((i : ℕ) → (Some id ≡ Some i) ↔ (slice_get xs i ≡ Some key)) →
      set ts id true ≡ either ts (map (λ v. same_key below v key) xs)
  marked_id id len exact =
      let f = λ (v : K). same_key below v key in
      let same_len : length ts ≡ length (map f xs) = len ∙ sym (length-map xs f) in
      same_lists _ _ (length-set ts id true ∙ sym (length_either ts (map f xs) same_len)) (λ k d h.
      let inside : k < length ts = omega (arith, h, length-set ts id true) in
      let v = item xs k (omega (arith, inside, len)) in
      let right : get_or (either ts (map f xs)) k d ≡ (get_or ts k d || same_key below v.0 key) = get_or_either ts (map f xs) k d same_len inside ∙ ap (λ b. get_or ts k d || b) (mapped_at f xs k d v.0 v.1) in
      elim (cases_eq k id) [
        | inl here ↦
            let found : v.0 ≡ key = same_Some _ _ (sym v.1 ∙ ap (slice_get xs) here ∙ (exact id).0 refl) in
            ap (λ j. get_or (set ts id true) j d) here ∙ get_or-set_same ts id true d (omega (arith, inside, here))
            ∙ sym (or_right (get_or ts k d) (same_key below v.0 key) (ap f found ∙ same_itself order key)) ∙ sym right
        | inr apart ↦
            get_or-set_other ts id k true d apart
            ∙ sym (or_none (get_or ts k d) (same_key below v.0 key) (false_from_ne_true _ (λ t. apart (sym (same_Some _ _ ((exact k).1 (v.1 ∙ ap Some (same_is order key v.0 t))))))))
            ∙ sym right
      ])

  pub marked_none : length ts ≡ length xs → ((i : ℕ) → (None ≡ Some i) ↔ (slice_get xs i ≡ Some key)) →
      ts ≡ either ts (map (λ v. same_key below v key) xs)
  marked_none len exact =
      let f = λ (v : K). same_key below v key in
      let same_len : length ts ≡ length (map f xs) = len ∙ sym (length-map xs f) in
      same_lists _ _ (sym (length_either ts (map f xs) same_len)) (λ k d inside.
      let v = item xs k (omega (arith, inside, len)) in
      sym (or_none (get_or ts k d) (same_key below v.0 key) (false_from_ne_true _ (λ t. none-some _ ((exact k).1 (v.1 ∙ ap Some (same_is order key v.0 t))))))
      ∙ ap (λ b. get_or ts k d || b) (sym (mapped_at f xs k d v.0 v.1))
      ∙ sym (get_or_either ts (map f xs) k d same_len inside))

-- what a loop over literals has marked
module _ {K : Type 0} (against : K → Literal → Option Ordering) (below : K → K → Bool) (xs : List K) where
  pub marks_start : (n : ℕ) (ls : List Literal) → n ≡ length xs → either (replicate n false) (map (λ v. equals_one against v ls) xs) ≡ map (λ v. equals_one against v ls) xs
  marks_start n ls e = ap (λ m. either (replicate m false) (map (λ v. equals_one against v ls) xs)) e ∙ none_either (λ v. equals_one against v ls) xs

  pub marks_more : (ts us : List Bool) (l : Literal) (key : K) (ls : List Literal) → ((v : K) → StandsTo below v key (against v l)) → us ≡ either ts (map (λ v. same_key below v key) xs) →
      either us (map (λ v. equals_one against v ls) xs) ≡ either ts (map (λ v. equals_one against v (l ∷ ls)) xs)
  marks_more ts us l key ls stands e =
      ap (λ bs. either bs (map (λ v. equals_one against v ls) xs)) e
      ∙ either_assoc ts (map (λ v. same_key below v key) xs) (map (λ v. equals_one against v ls) xs)
      ∙ ap (either ts) (either_maps (λ v. same_key below v key) (λ v. equals_one against v ls) xs
      ∙ map_agree (λ v. same_key below v key || equals_one against v ls) (λ v. equals_one against v (l ∷ ls)) (λ v. ap (λ b. b || equals_one against v ls) (sym (accepted_by below v key Equal (against v l) (stands v)))) xs)

  pub marks_all : (ts : List Bool) (ls : List Literal) → ls ≡ [] → length ts ≡ length xs → either ts (map (λ v. equals_one against v ls) xs) ≡ ts
  marks_all ts ls e len = ap (λ ms. either ts (map (λ v. equals_one against v ms) xs)) e ∙ either_none ts xs len

  -- one literal more, whose key was marked in what a vector lent
  module _ (ts lent new : List Bool) (n i : ℕ) (ls : List Literal) (l : Literal) (key : K) (stands : (v : K) → StandsTo below v key (against v l)) (lends : lent ≡ ts) (whole : length lent ≡ n) (kept : length new ≡ length lent) (marks : new ≡ either lent (map (λ v. same_key below v key) xs)) where
    put_back : take n (new ++ drop (length new) ts) ≡ new
    put_back = take_at new (drop (length new) ts) n (kept ∙ whole)

    pub marks_step : i < length ls → l ≡ get_or ls i l → either ts (map (λ v. equals_one against v (drop i ls)) xs) ≡ map (λ v. equals_one against v ls) xs →
        either (take n (new ++ drop (length new) ts)) (map (λ v. equals_one against v (drop (i + 1) ls)) xs) ≡ map (λ v. equals_one against v ls) xs
    marks_step h here before =
        ap (λ bs. either bs (map (λ v. equals_one against v (drop (i + 1) ls)) xs)) put_back
        ∙ marks_more ts new l key (drop (i + 1) ls) stands (marks ∙ ap (λ bs. either bs (map (λ v. same_key below v key) xs)) lends)
        ∙ ap (λ ms. either ts (map (λ v. equals_one against v ms) xs)) (ap (λ m. m ∷ drop (i + 1) ls) here ∙ sym (drop_more ls i l h))
        ∙ before

    pub marks_count : length ts ≡ length xs → length (take n (new ++ drop (length new) ts)) ≡ length xs
    marks_count e = ap length put_back ∙ kept ∙ ap length lends ∙ e

  pub marks_end : (ts : List Bool) (i : ℕ) (ls : List Literal) → length ls ≤ i → length ts ≡ length xs → either ts (map (λ v. equals_one against v (drop i ls)) xs) ≡ map (λ v. equals_one against v ls) xs →
      ts ≡ map (λ v. equals_one against v ls) xs
  marks_end ts i ls past len e = sym (marks_all ts (drop i ls) (drop_all i ls past) len) ∙ e

  -- a comparison with a literal, and a range of two
  pub compared_by : (comparison : Comparison) (l : Literal) (key : K) → ((v : K) → StandsTo below v key (against v l)) → map (λ v. compares_keys below comparison v key) xs ≡ map (λ v. key_accepted against comparison v l) xs
  compared_by comparison l key stands = map_agree _ _ (λ v. sym (accepted_by below v key comparison (against v l) (stands v))) xs

  pub between_by : (low high : Literal) (from to : K) → ((v : K) → StandsTo below v from (against v low)) → ((v : K) → StandsTo below v to (against v high)) → map (is_within below (At from) (At to)) xs ≡ map (λ v. lies_between_by against v low high) xs
  between_by low high from to above under = map_agree _ _ (λ v.
      ap (λ b. b && not (below to v)) (sym (accepted_by below v from AtLeast (against v low) (above v)))
      ∙ ap (λ b. accepted AtLeast (against v low) && b) (sym (accepted_by below v to AtMost (against v high) (under v)))) xs
