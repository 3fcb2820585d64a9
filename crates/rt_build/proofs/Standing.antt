-- What sorted values stand for, as values of any kind.
use Rattle.std.proofs.Common.{◌≡◌, ℕ, ◌<◌, Bool, false, List, [], ◌∷◌, length, map, get_or, slice_get, Some, All, Contains, option_map, refl, sym, ap, subst, ◌∙◌, arith}
use Rattle.std.specs.List.{AllByRecursion}
use Rattle.std.proofs.lemmas.List.{get_or-map, get_or_default, length-map}
use Rattle.std.proofs.lemmas.List.Elements.{All-from_recursion}
use Rattle.std.proofs.lemmas.Option.{slice_get_within, get_or_from_slice_get, slice_get-get_or, slice_get-map, same_Some}
use Rattle.rt_schema.specs.declared.value.Value.{Value}
use Rattle.rt_schema.specs.declared.value.Value.TheVariants as value
use Rattle.rt_dict.specs.Order.{IsStrictOrder}
use Rattle.rt_dict.specs.Values.{AreIdsOf}
use Rattle.rt_dict.proofs.Ascending.{same_id}
use Rattle.rt_mutable.specs.Consuming.{IsShort}
use Rattle.rt_segment.specs.declared.dictionary.Dictionary.{Dictionary}
use Rattle.rt_segment.specs.declared.dictionary.Dictionary.TheVariants.{Int, Long, Text, Bool as Truth, Time}
use Rattle.rt_segment.specs.Column.{count_in, values_in, AreShort}
use Rattle.rt_build.specs.Renumbered.{AreSorted}
use Rattle.rt_build.proofs.Fronts.{found_contains}

head_of : {X : Type 0} (x y : X) (xs ys : List X) → x ∷ xs ≡ y ∷ ys → x ≡ y
head_of x y xs ys e = cc

tail_of : {X : Type 0} (x y : X) (xs ys : List X) → x ∷ xs ≡ y ∷ ys → xs ≡ ys
tail_of x y xs ys e = cc

some_at : {X : Type 0} (xs : List X) (i : ℕ) → i < length xs → (x : X) × (slice_get xs i ≡ Some x)
some_at [] i h = absurd (omega (arith, h))
some_at (x ∷ xs) i h = (get_or (x ∷ xs) i x, slice_get-get_or (x ∷ xs) i x h)

module _ {K : Type 0} (f : K → Value) (dictionary : List K) where
  pub values_standing : (ids : List ℕ) (vs : List K) → AreIdsOf dictionary vs ids → map (λ id. get_or (map f dictionary) id (value.Bool false)) ids ≡ map f vs
  values_standing [] [] e = refl
  values_standing [] (v ∷ vs) e = cc
  values_standing (id ∷ ids) [] e = cc
  values_standing (id ∷ ids) (v ∷ vs) e =
      let found : slice_get dictionary id ≡ Some v = head_of _ _ _ _ e in
      let here : get_or (map f dictionary) id (value.Bool false) ≡ f v =
      get_or-map f dictionary id v (value.Bool false) (slice_get_within dictionary id v found) ∙ ap f (get_or_from_slice_get dictionary id v v found) in
      (λ j. here j ∷ values_standing ids vs (tail_of _ _ _ _ e) j)

  known_by_recursion : (ids : List ℕ) (vs : List K) → AreIdsOf dictionary vs ids → AllByRecursion (λ id. id < length dictionary) ids
  known_by_recursion [] vs e = tt
  known_by_recursion (id ∷ ids) [] e = cc
  known_by_recursion (id ∷ ids) (v ∷ vs) e = (slice_get_within dictionary id v (head_of _ _ _ _ e), known_by_recursion ids vs (tail_of _ _ _ _ e))

  pub known_standing : (ids : List ℕ) (vs : List K) → AreIdsOf dictionary vs ids → All (λ id. id < length dictionary) ids
  known_standing ids vs e = All-from_recursion (λ id. id < length dictionary) ids (known_by_recursion ids vs e)

module _ {K : Type 0} {below : K → K → Bool} (order : IsStrictOrder below) (vs dictionary : List K) (ids : List ℕ) (s : AreSorted below vs dictionary ids) where
  count : length ids ≡ length vs
  count = sym (length-map ids (slice_get dictionary)) ∙ ap length s.identified ∙ length-map vs Some

  -- each value is that of a row
  pub used_standing : (id : ℕ) → id < length dictionary → Contains ids id
  used_standing id lt = by (some_at dictionary id lt)
    where
      get_or_default_at : (row : ℕ) → row < length ids → get_or ids row id ≡ get_or ids row 0
      get_or_default_at row h = get_or_default ids row id 0 h

      by : (d : K) × (slice_get dictionary id ≡ Some d) → Contains ids id
      by found =
          let d = found.0 in
          let at = s.distinct.none_else d (id, slice_get_within dictionary id d found.1, get_or_from_slice_get dictionary id d d found.1) in
          let row = at.0 in
          let there : slice_get vs row ≡ Some d = found_contains vs d at in
          let place : slice_get ids row ≡ Some (get_or ids row 0) = slice_get-get_or ids row 0 (omega (arith, count, at.1)) in
          let leads : slice_get dictionary (get_or ids row 0) ≡ Some d =
          same_Some _ _ (ap (option_map (slice_get dictionary)) (sym place) ∙ sym (slice_get-map (slice_get dictionary) ids row) ∙ ap (λ l. slice_get l row) s.identified ∙ slice_get-map Some vs row ∙ ap (option_map Some) there) in
          let same : get_or ids row 0 ≡ id = same_id order dictionary s.distinct.ascending (get_or ids row 0) id d leads found.1 in
          (row, omega (arith, count, at.1), get_or_default_at row (omega (arith, count, at.1)) ∙ same)

-- the texts of rows are short, and so are those of their dictionary
pub short_standing : (dictionary : Dictionary) (ids : List ℕ) → ((id : ℕ) → id < count_in dictionary → Contains ids id) → All IsShort (map (λ id. get_or (values_in dictionary) id (value.Bool false)) ids) → AreShort dictionary
short_standing (Int zs) ids used short = tt
short_standing (Long zs) ids used short = tt
short_standing (Truth bs) ids used short = tt
short_standing (Time zs) ids used short = tt
short_standing (Text ts) ids used short = λ k d lt.
    let at = used k lt in
    let row = at.0 in
    let cell : get_or (map (λ id. get_or (map value.Text ts) id (value.Bool false)) ids) row (value.Bool false) ≡ value.Text (get_or ts k d) =
    get_or-map (λ id. get_or (map value.Text ts) id (value.Bool false)) ids row k (value.Bool false) at.1
    ∙ ap (λ id. get_or (map value.Text ts) id (value.Bool false)) at.2
    ∙ get_or-map value.Text ts k d (value.Bool false) lt in
    subst IsShort cell (short row (value.Bool false) (omega (arith, at.1, length-map ids (λ id. get_or (map value.Text ts) id (value.Bool false)))))
