-- The sealed columns of a consuming segment: what a sealed segment asks of them, and its rows.
use Rattle.std.proofs.Common.{◌≡◌, ℕ, zero, suc, ◌+◌, ◌-◌, ◌<◌, ◌≤◌, true, false, not, List, [], ◌∷◌, ◌++◌, length, map, take, drop, get_or, slice_get, Some, All, AllPairs, refl, sym, ap, subst, ◌∙◌, inl, inr, arith}
use Rattle.std.specs.List.{AllByRecursion, range_with_len}
use Rattle.std.specs.Str.{bytes_eq}
use Rattle.std.specs.Cmp.Lexicographic.{bytes_decides}
use Rattle.std.proofs.lemmas.Bool.{cases_lt, cases_Bool, and_parts, or_parts, or_from, not-true, true≢false}
use Rattle.std.proofs.lemmas.List.{get_or-map, get_or_default, get_or_past, get_or-take, length-map, length-take-le, drop_more, drop_all}
use Rattle.std.proofs.lemmas.List.FromFn.{fill_by_all}
use Rattle.std.proofs.lemmas.List.Elements.{All-map, All-weaker, All-from_recursion, recursion_from_All}
use Rattle.std.proofs.lemmas.Option.{same_Some}
use Rattle.rt_base.specs.declared.numbers.Offset.{Offset}
use Rattle.rt_schema.specs.declared.value.Value.{Value}
use Rattle.rt_schema.specs.declared.value.Value.TheVariants as value
use Rattle.rt_schema.specs.Schema.{is_among, are_distinct}
use Rattle.rt_schema.specs.Value.{kind_of}
use Rattle.rt_mutable.specs.Column.{Shape, Filled}
use Rattle.rt_mutable.specs.Consuming.{Placed, Consuming, IsConsuming, IsNamed, IsShort, FitsColumns, value_at, values_at}
use Rattle.rt_segment.specs.Column.{SealedColumn, values_in, AreShort}
use Rattle.rt_segment.specs.Segment.{AreNew, IsColumnOf, cell_in, row_in}
use Rattle.rt_build.specs.Sealing.{IsColumnSealed, AreColumnsSealed, filled_from, shape_in, marked}

short_cell : (values : List Value) (place : ℕ) → All IsShort values → IsShort (get_or values place (value.Bool false))
short_cell values place h = elim (cases_lt place (length values)) [
  | inl lt ↦ h place (value.Bool false) lt
  | inr past ↦ subst IsShort (sym (get_or_past values place (value.Bool false) past)) tt
]

-- the values of a column are short
pub short_column : (segment : Consuming) (place : ℕ) → IsConsuming segment → All IsShort (values_at place segment.rows)
short_column segment place h =
    All-map IsShort (λ (placed : Placed). value_at place placed.row) segment.rows
    (All-weaker (λ (placed : Placed). All IsShort placed.row.values) (λ (placed : Placed). IsShort (value_at place placed.row)) (λ placed s. short_cell placed.row.values place s) segment.rows h.short)

pub filled_at : (place : ℕ) (rows : List Placed) (shapes : List Shape) (k : ℕ) (column : Filled) → slice_get shapes k ≡ Some column.shape → column.values ≡ values_at (place + k) rows → slice_get (filled_from place rows shapes) k ≡ Some column
filled_at place rows [] k column e f = cc
filled_at place rows (shape ∷ shapes) zero column e f =
    let here : place + 0 ≡ place = omega arith in
    (λ j. Some (record { shape = same_Some shape column.shape e j; values = (ap (λ p. values_at p rows) (sym here) ∙ sym f) j }))
filled_at place rows (shape ∷ shapes) (suc k) column e f =
    let there : place + suc k ≡ (place + 1) + k = omega arith in
    filled_at (place + 1) rows shapes k column e (f ∙ ap (λ p. values_at p rows) there)

pub length_filled : (place : ℕ) (rows : List Placed) (shapes : List Shape) → length (filled_from place rows shapes) ≡ length shapes
length_filled place rows [] = refl
length_filled place rows (shape ∷ shapes) = ap suc (length_filled (place + 1) rows shapes)

-- a column more
pub sealed_more : (rows : ℕ) (indexed : List (List ℕ)) (columns : List Filled) (i : ℕ) (sealed : List SealedColumn) (x : Filled) (y : SealedColumn) → AreColumnsSealed rows indexed (take i columns) sealed → slice_get columns i ≡ Some x → IsColumnSealed rows (is_among x.shape.name indexed) x y → AreColumnsSealed rows indexed (take (i + 1) columns) (sealed ++ y ∷ [])
sealed_more rows indexed [] i sealed x y h e s = cc
sealed_more rows indexed (c ∷ columns) zero [] x y h e s = (subst (λ (f : Filled). IsColumnSealed rows (is_among f.shape.name indexed) f y) (sym (same_Some c x e)) s, tt)
sealed_more rows indexed (c ∷ columns) zero (other ∷ sealed) x y h e s = absurd h
sealed_more rows indexed (c ∷ columns) (suc i) [] x y h e s = absurd h
sealed_more rows indexed (c ∷ columns) (suc i) (other ∷ sealed) x y h e s =
    let more : suc i + 1 ≡ suc (i + 1) = omega arith in
    rw more (h.0, sealed_more rows indexed columns i sealed x y h.1 e s)

module _ (rows : ℕ) (indexed : List (List ℕ)) (placed : List Placed) where
  pub length_sealed : (place : ℕ) (shapes : List Shape) (sealed : List SealedColumn) → AreColumnsSealed rows indexed (filled_from place placed shapes) sealed → length sealed ≡ length shapes
  length_sealed place [] [] h = refl
  length_sealed place [] (s ∷ sealed) h = absurd h
  length_sealed place (shape ∷ shapes) [] h = absurd h
  length_sealed place (shape ∷ shapes) (s ∷ sealed) h = ap suc (length_sealed (place + 1) shapes sealed h.1)

  pub shapes_sealed : (place : ℕ) (shapes : List Shape) (sealed : List SealedColumn) → AreColumnsSealed rows indexed (filled_from place placed shapes) sealed → map shape_in sealed ≡ map (marked indexed) shapes
  shapes_sealed place [] [] h = refl
  shapes_sealed place [] (s ∷ sealed) h = absurd h
  shapes_sealed place (shape ∷ shapes) [] h = absurd h
  shapes_sealed place (shape ∷ shapes) (s ∷ sealed) h =
      (λ j. record { name = h.0.name j; kind = h.0.kind j; indexed = h.0.flag j } ∷ shapes_sealed (place + 1) shapes sealed h.1 j)

  pub names_sealed : (place : ℕ) (shapes : List Shape) (sealed : List SealedColumn) → AreColumnsSealed rows indexed (filled_from place placed shapes) sealed → map (λ column. column.name) sealed ≡ map (λ shape. shape.name) shapes
  names_sealed place [] [] h = refl
  names_sealed place [] (s ∷ sealed) h = absurd h
  names_sealed place (shape ∷ shapes) [] h = absurd h
  names_sealed place (shape ∷ shapes) (s ∷ sealed) h = (λ j. h.0.name j ∷ names_sealed (place + 1) shapes sealed h.1 j)

  columns_by_recursion : (place : ℕ) (shapes : List Shape) (sealed : List SealedColumn) → rows ≤ length placed → AllByRecursion IsNamed shapes → AllByRecursion (λ column. AreShort column.dictionary) sealed → AreColumnsSealed rows indexed (filled_from place placed shapes) sealed → AllByRecursion (IsColumnOf rows) sealed
  columns_by_recursion place [] [] le named short h = tt
  columns_by_recursion place [] (s ∷ sealed) le named short h = absurd h
  columns_by_recursion place (shape ∷ shapes) [] le named short h = absurd h
  columns_by_recursion place (shape ∷ shapes) (s ∷ sealed) le named short h =
      let size : length s.ids ≡ rows = sym (length-map s.ids (λ id. get_or (values_in s.dictionary) id (value.Bool false))) ∙ ap length h.0.values
      ∙ length-take-le rows (values_at place placed) (omega (arith, length-map placed (λ (p : Placed). value_at place p.row))) in (
        record {
          named = subst (λ name. (1 ≤ length name) × (length name ≤ 128)) (sym h.0.name) named.0;
          short = short.0;
          rows = size;
        },
        columns_by_recursion (place + 1) shapes sealed le named.1 short.1 h.1,
      )

  pub columns_fit : (shapes : List Shape) (sealed : List SealedColumn) → rows ≤ length placed → All IsNamed shapes → All (λ column. AreShort column.dictionary) sealed → AreColumnsSealed rows indexed (filled_from 0 placed shapes) sealed → All (IsColumnOf rows) sealed
  columns_fit shapes sealed le named short h =
      All-from_recursion (IsColumnOf rows) sealed
      (columns_by_recursion 0 shapes sealed le (recursion_from_All IsNamed shapes named) (recursion_from_All (λ column. AreShort column.dictionary) sealed short) h)

  -- the cells of a row, from a place on
  cells_from : (place : ℕ) (shapes : List Shape) (sealed : List SealedColumn) (k : ℕ) (p : Placed) → AreColumnsSealed rows indexed (filled_from place placed shapes) sealed → k < rows → k < length placed → get_or placed k p ≡ p → length p.row.values ≡ place + length shapes → map (cell_in k) sealed ≡ drop place p.row.values
  cells_from place [] [] k p h lt within at size = sym (drop_all place p.row.values (omega (arith, size)))
  cells_from place [] (s ∷ sealed) k p h lt within at size = absurd h
  cells_from place (shape ∷ shapes) [] k p h lt within at size = absurd h
  cells_from place (shape ∷ shapes) (s ∷ sealed) k p h lt within at size =
      let cell : cell_in k s ≡ get_or p.row.values place (value.Bool false) =
      ap (λ vs. get_or vs k (value.Bool false)) h.0.values
      ∙ get_or-take rows (values_at place placed) k (value.Bool false) lt
      ∙ get_or-map (λ (q : Placed). value_at place q.row) placed k p (value.Bool false) within
      ∙ ap (λ (q : Placed). value_at place q.row) at in
      let rest = cells_from (place + 1) shapes sealed k p h.1 lt within at (omega (arith, size)) in
      (λ j. cell j ∷ rest j) ∙ sym (drop_more p.row.values place (value.Bool false) (omega (arith, size)))

  row_is : (shapes : List Shape) (sealed : List SealedColumn) (k : ℕ) (p : Placed) → AreColumnsSealed rows indexed (filled_from 0 placed shapes) sealed → k < rows → k < length placed → get_or placed k p ≡ p → FitsColumns shapes p.row → row_in sealed k ≡ p.row
  row_is shapes sealed k p h lt within at fits =
      let size : length p.row.values ≡ 0 + length shapes = omega (arith, ap length fits, length-map p.row.values kind_of, length-map shapes (λ (shape : Shape). shape.kind)) in
      ap (λ (vs : List Value). record { values = vs }) (cells_from 0 shapes sealed k p h lt within at size)

  pub rows_sealed : (shapes : List Shape) (sealed : List SealedColumn) → rows ≤ length placed → All (λ p. FitsColumns shapes p.row) placed → AreColumnsSealed rows indexed (filled_from 0 placed shapes) sealed → map (row_in sealed) (range_with_len 0 rows) ≡ map (λ p. p.row) (take rows placed)
  rows_sealed shapes sealed le fit h =
      sym (fill_by_all (row_in sealed) (map (λ (p : Placed). p.row) (take rows placed)) rows (record { values = [] })
      (length-map (take rows placed) (λ (p : Placed). p.row) ∙ length-take-le rows placed le)
      (λ k lt. at k lt))
    where
      some_placed : (ps : List Placed) (k : ℕ) → k < length ps → (p : Placed) × (get_or ps k p ≡ p)
      some_placed [] k within = absurd (omega (arith, within))
      some_placed (p ∷ ps) k within = (get_or (p ∷ ps) k p, get_or_default (p ∷ ps) k (get_or (p ∷ ps) k p) p within)

      by : (k : ℕ) → k < rows → (p : Placed) × (get_or placed k p ≡ p) → get_or (map (λ (p : Placed). p.row) (take rows placed)) k (record { values = [] }) ≡ row_in sealed k
      by k lt found =
          let p = found.0 in
          let within : k < length placed = omega (arith, lt, le) in
          get_or-map (λ (q : Placed). q.row) (take rows placed) k p (record { values = [] }) (omega (arith, lt, length-take-le rows placed le))
          ∙ ap (λ (q : Placed). q.row) (get_or-take rows placed k p lt ∙ found.1)
          ∙ sym (row_is shapes sealed k p h lt within found.1 (subst (λ (q : Placed). FitsColumns shapes q.row) found.1 (fit k p within)))

      at : (k : ℕ) → k < rows → get_or (map (λ (p : Placed). p.row) (take rows placed)) k (record { values = [] }) ≡ row_in sealed k
      at k lt = by k lt (some_placed placed k (omega (arith, lt, le)))

-- no name comes twice
abbrev AreApart : List (List ℕ) → List (List ℕ) → Type 0
AreApart before [] = Unit {0}
AreApart before (name ∷ names) = (is_among name before ≡ false) × AreApart before names

among_push : (name other : List ℕ) (before : List (List ℕ)) → is_among name before ≡ false → bytes_eq name other ≡ false → is_among name (before ++ other ∷ []) ≡ false
among_push name other [] h e = or_from (bytes_eq name other) false e refl
among_push name other (b ∷ before) h e =
    let parts = or_parts (bytes_eq name b) (is_among name before) h in
    or_from (bytes_eq name b) (is_among name (before ++ other ∷ [])) parts.0 (among_push name other before parts.1 e)

apart_swap : (a b : List ℕ) → bytes_eq a b ≡ false → bytes_eq b a ≡ false
apart_swap a b h = elim (cases_Bool (bytes_eq b a)) [
  | inl same ↦ absurd (true≢false (sym ((bytes_decides a b).1 (sym ((bytes_decides b a).0 same))) ∙ h))
  | inr apart ↦ apart
]

apart_push : (name : List ℕ) (before names : List (List ℕ)) → AreApart before names → is_among name names ≡ false → AreApart (before ++ name ∷ []) names
apart_push name before [] h e = tt
apart_push name before (other ∷ names) h e =
    let parts = or_parts (bytes_eq name other) (is_among name names) e in
    (among_push other name before h.0 (apart_swap name other parts.0), apart_push name before names h.1 parts.1)

new_names : (before : List (List ℕ)) (columns : List SealedColumn) → AreApart before (map (λ column. column.name) columns) → are_distinct (map (λ column. column.name) columns) ≡ true → AreNew before columns
new_names before [] h d = tt
new_names before (c ∷ columns) h d =
    let parts = and_parts (not (is_among c.name (map (λ (column : SealedColumn). column.name) columns))) (are_distinct (map (λ (column : SealedColumn). column.name) columns)) d in
    (h.0, new_names (before ++ c.name ∷ []) columns (apart_push c.name before (map (λ (column : SealedColumn). column.name) columns) h.1 (not-true _ parts.0)) parts.1)

apart_nothing : (names : List (List ℕ)) → AreApart [] names
apart_nothing [] = tt
apart_nothing (name ∷ names) = (refl, apart_nothing names)

pub are_new : (columns : List SealedColumn) (names : List (List ℕ)) → map (λ column. column.name) columns ≡ names → are_distinct names ≡ true → AreNew [] columns
are_new columns names e d = new_names [] columns (apart_nothing (map (λ column. column.name) columns)) (ap are_distinct e ∙ d)

-- ascending offsets leave room for the rows between them
offset_above : (start : Offset) (rows : List Placed) (k : ℕ) (p : Placed) → AllPairs (λ a b. a.offset.0 < b.offset.0) rows → All (λ q. start.0 ≤ q.offset.0) rows → k < length rows → start.0 + k ≤ (get_or rows k p).offset.0
offset_above start rows zero p up above lt = omega (arith, above 0 p lt)
offset_above start rows (suc k) p up above lt = omega (arith, offset_above start rows k p up above (omega (arith, lt)), up k (suc k) p (omega arith) lt)

pub rows_between : (start end : Offset) (rows : List Placed) (n : ℕ) → AllPairs (λ a b. a.offset.0 < b.offset.0) rows → All (λ q. start.0 ≤ q.offset.0) rows → n ≤ length rows → All (λ q. q.offset.0 < end.0) (take n rows) → n ≤ end.0 - start.0
rows_between start end rows zero up above le below = omega arith
rows_between start end [] (suc n) up above le below = absurd (omega (arith, le))
rows_between start end (r ∷ rows) (suc n) up above le below =
    let last = below n r (omega (arith, length-take-le (suc n) (r ∷ rows) le)) in
    omega (arith, offset_above start (r ∷ rows) n r up above le, last, ap (λ (q : Placed). q.offset.0) (get_or-take (suc n) (r ∷ rows) n r (omega arith)))
