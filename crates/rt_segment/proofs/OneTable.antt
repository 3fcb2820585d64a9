-- A column of values has one dictionary and one list of ids.
use Rattle.std.proofs.Common.{◌≡◌, ℕ, ◌<◌, Bool, false, List, [], ◌∷◌, length, get_or, map, Some, refl, sym, ap, subst, ◌∙◌, arith}
use Rattle.std.specs.List.{All, Contains}
use Rattle.std.proofs.lemmas.List.{length-map, get_or-map, get_or_default, same_lists}
use Rattle.std.proofs.lemmas.Option.{slice_get-get_or}
use Rattle.rt_dict.specs.Order.{IsStrictOrder, int_order, bool_order, text_order}
use Rattle.rt_dict.specs.Values.{IsAscending}
use Rattle.rt_dict.proofs.Ascending.{same_id}
use Rattle.rt_dict.proofs.Same.{same_ascending}
use Rattle.rt_schema.specs.declared.value.Value.{Value}
use Rattle.rt_schema.specs.declared.value.Value.TheVariants as value
use Rattle.rt_segment.specs.declared.dictionary.Dictionary.{Dictionary}
use Rattle.rt_segment.specs.declared.dictionary.Dictionary.TheVariants.{Int, Long, Text, Bool as Truth, Time}
use Rattle.rt_segment.specs.Column.{SealedColumn, kind_in, count_in, values_in, values_of, IsColumn, IsDictionary}

abbrev none : Value
none = value.Bool false

-- ids below a count, each of which stands
pub record AreUsed (count : ℕ) (ids : List ℕ) : Type 0 where
  pub known : All (λ id. id < count) ids
  pub used : (id : ℕ) → id < count → Contains ids id

module _ {K : Type 0} {below : K → K → Bool} (order : IsStrictOrder below) (wrap : K → Value) (apart : (x y : K) → wrap x ≡ wrap y → x ≡ y) where
  abbrev cells : List K → List ℕ → List Value
  cells vs ids = map (λ id. get_or (map wrap vs) id none) ids

  cell : (vs : List K) (ids : List ℕ) → All (λ id. id < length vs) ids → (r : ℕ) (d : K) → r < length ids → get_or (cells vs ids) r none ≡ wrap (get_or vs (get_or ids r 0) d)
  cell vs ids known r d lt = get_or-map (λ id. get_or (map wrap vs) id none) ids r 0 none lt ∙ get_or-map wrap vs (get_or ids r 0) d none (known r 0 lt)

  module _ (vs ws : List K) (is js : List ℕ) (left : AreUsed (length vs) is) (right : AreUsed (length ws) js) (same : cells vs is ≡ cells ws js) where
    rows : length is ≡ length js
    rows = sym (length-map is (λ id. get_or (map wrap vs) id none)) ∙ ap length same ∙ length-map js (λ id. get_or (map wrap ws) id none)

    at_row : (r : ℕ) (d : K) → r < length is → get_or vs (get_or is r 0) d ≡ get_or ws (get_or js r 0) d
    at_row r d lt = apart _ _ (sym (cell vs is left.known r d lt) ∙ ap (λ cs. get_or cs r none) same ∙ cell ws js right.known r d (omega (arith, rows, lt)))

    within : (z : K) → Contains vs z → Contains ws z
    within z at =
        let row = left.used at.0 at.1 in
        let id : get_or is row.0 0 ≡ at.0 = get_or_default is row.0 0 at.0 row.1 ∙ row.2 in
        let there : row.0 < length js = omega (arith, rows, row.1) in
        (get_or js row.0 0, right.known row.0 0 there, sym (at_row row.0 z row.1) ∙ ap (λ i. get_or vs i z) id ∙ at.2)

  one_list : (vs ws : List K) (is js : List ℕ) → IsAscending below vs → IsAscending below ws → AreUsed (length vs) is → AreUsed (length ws) js → cells vs is ≡ cells ws js → vs ≡ ws
  one_list vs ws is js up up' left right same =
      same_ascending order vs ws up up' (within vs ws is js left right same) (within ws vs js is right left (sym same))

  one_ids : (vs : List K) (is js : List ℕ) → IsAscending below vs → AreUsed (length vs) is → AreUsed (length vs) js → cells vs is ≡ cells vs js → is ≡ js
  one_ids vs is js up left right same = same_lists is js (rows vs vs is js left right same) (λ k d lt.
      let d' = get_or_default is k d 0 lt in
      let lt' : k < length js = omega (arith, rows vs vs is js left right same, lt) in
      d' ∙ ids_at k lt lt' ∙ get_or_default js k 0 d lt')
    where
      ids_at : (k : ℕ) → k < length is → k < length js → get_or is k 0 ≡ get_or js k 0
      ids_at k lt lt' = first vs refl
        where
          first : (ws : List K) → ws ≡ vs → get_or is k 0 ≡ get_or js k 0
          first [] e = absurd (omega (arith, left.known k 0 lt, ap length e))
          first (w ∷ ws) e =
              let i = get_or is k 0 in
              let j = get_or js k 0 in
              same_id order vs up i j (get_or vs i w) (slice_get-get_or vs i w (left.known k 0 lt)) (slice_get-get_or vs j w (right.known k 0 lt') ∙ ap (λ x. Some x) (sym (at_row vs vs is js left right same k w lt)))

  pub one_both : (vs ws : List K) (is js : List ℕ) → IsAscending below vs → IsAscending below ws → AreUsed (length vs) is → AreUsed (length ws) js → cells vs is ≡ cells ws js → (vs ≡ ws) × (is ≡ js)
  one_both vs ws is js up up' left right same =
      let e : vs ≡ ws = one_list vs ws is js up up' left right same in
      (e, one_ids vs is js up left (subst (λ xs. AreUsed (length xs) js) (sym e) right) (same ∙ ap (λ xs. cells xs js) (sym e)))

one_dictionary : (d e : Dictionary) (is js : List ℕ) → kind_in d ≡ kind_in e → IsDictionary d → IsDictionary e → AreUsed (count_in d) is → AreUsed (count_in e) js
    → map (λ id. get_or (values_in d) id none) is ≡ map (λ id. get_or (values_in e) id none) js → (d ≡ e) × (is ≡ js)
one_dictionary (Int a) (Int b) is js kind x y left right same = let h = one_both int_order value.Int (λ x y e. cc) a b is js x.1 y.1 left right same in (ap Int h.0, h.1)
one_dictionary (Long a) (Long b) is js kind x y left right same = let h = one_both int_order value.Long (λ x y e. cc) a b is js x.1 y.1 left right same in (ap Long h.0, h.1)
one_dictionary (Text a) (Text b) is js kind x y left right same = let h = one_both text_order value.Text (λ x y e. cc) a b is js x.1 y.1 left right same in (ap Text h.0, h.1)
one_dictionary (Truth a) (Truth b) is js kind x y left right same = let h = one_both bool_order value.Bool (λ x y e. cc) a b is js x.1 y.1 left right same in (ap Truth h.0, h.1)
one_dictionary (Time a) (Time b) is js kind x y left right same = let h = one_both int_order value.Time (λ x y e. cc) a b is js x.1 y.1 left right same in (ap Time h.0, h.1)
one_dictionary d e is js kind x y left right same = absurd cc

abbrev made : List ℕ → Dictionary → List ℕ → Bool → SealedColumn
made name dictionary ids indexed = record { name = name; dictionary = dictionary; ids = ids; indexed = indexed }

pub one_column : (a b : SealedColumn) → IsColumn a → IsColumn b → a.name ≡ b.name → kind_in a.dictionary ≡ kind_in b.dictionary → a.indexed ≡ b.indexed → values_of a ≡ values_of b → a ≡ b
one_column a b x y name kind indexed same =
    let h = one_dictionary a.dictionary b.dictionary a.ids b.ids kind x.dictionary y.dictionary (record { known = x.known; used = x.used }) (record { known = y.known; used = y.used }) same in
    ap (λ n. made n a.dictionary a.ids a.indexed) name ∙ ap (λ d. made b.name d a.ids a.indexed) h.0 ∙ ap (λ i. made b.name b.dictionary i a.indexed) h.1 ∙ ap (λ f. made b.name b.dictionary b.ids f) indexed
