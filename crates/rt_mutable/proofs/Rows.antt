-- Rows and columns: a row more in each column, and a column read row by row.
use Rattle.std.proofs.Common.{◌≡◌, ℕ, zero, suc, ◌+◌, ◌<◌, ◌≤◌, false, List, [], ◌∷◌, ◌++◌, length, map, take, drop, set, slice_get, Some, All, refl, sym, ap, ◌∙◌, arith}
use Rattle.std.specs.List.{AllByRecursion}
use Rattle.std.proofs.lemmas.List.{get_or_append_left, get_or_push, length_push, get_or-map, drop_more, drop_all}
use Rattle.std.proofs.lemmas.List.Elements.{All-from_recursion}
use Rattle.std.proofs.lemmas.Option.{get_or_from_slice_get, slice_get_within, same_Some}
use Rattle.rt_base.specs.declared.numbers.Offset.{Offset}
use Rattle.rt_schema.specs.declared.value.Value.{Value}
use Rattle.rt_schema.specs.declared.value.Value.TheVariants as value
use Rattle.rt_mutable.specs.Column.{Filled}
use Rattle.rt_mutable.specs.Consuming.{value_at, values_at}
use Rattle.rt_mutable.specs.Columns.{AreFull, cell_at, row_at, rows_from, with_value, with_values, without_last}
use Rattle.rt_mutable.proofs.Arriving.{take_front}

pub length_rows : (n : ℕ) (columns : List Filled) (offsets : List Offset) → length (rows_from n columns offsets) ≡ length offsets
length_rows n columns [] = refl
length_rows n columns (offset ∷ offsets) = ap suc (length_rows (n + 1) columns offsets)

pub full_at : (count : ℕ) (columns : List Filled) (place : ℕ) (column : Filled) → AreFull count columns → slice_get columns place ≡ Some column → length column.values ≡ count
full_at count [] place column full e = cc
full_at count (c ∷ columns) zero column full e = ap (λ (f : Filled). length f.values) (sym (same_Some c column e)) ∙ full.0
full_at count (c ∷ columns) (suc place) column full e = full_at count columns place column full.1 e

-- a column has the values of the rows at its place
values_from : (n : ℕ) (columns : List Filled) (offsets : List Offset) (place : ℕ) (column : Filled) → slice_get columns place ≡ Some column → n + length offsets ≡ length column.values → values_at place (rows_from n columns offsets) ≡ drop n column.values
values_from n columns [] place column e size = sym (drop_all n column.values (omega (arith, size)))
values_from n columns (offset ∷ offsets) place column e size =
    let cell : value_at place (row_at n columns) ≡ cell_at n column =
    get_or-map (cell_at n) columns place column (value.Bool false) (slice_get_within columns place column e) ∙ ap (cell_at n) (get_or_from_slice_get columns place column column e) in
    let rest = values_from (n + 1) columns offsets place column e (omega (arith, size)) in
    (λ j. cell j ∷ rest j) ∙ sym (drop_more column.values n (value.Bool false) (omega (arith, size)))

pub values_are : (columns : List Filled) (offsets : List Offset) (place : ℕ) (column : Filled) → AreFull (length offsets) columns → slice_get columns place ≡ Some column → column.values ≡ values_at place (rows_from 0 columns offsets)
values_are columns offsets place column full e =
    sym (values_from 0 columns offsets place column e (omega (arith, full_at (length offsets) columns place column full e)))

pub length_with : (columns : List Filled) (values : List Value) → length (with_values columns values) ≡ length columns
length_with [] values = refl
length_with (c ∷ columns) [] = refl
length_with (c ∷ columns) (v ∷ values) = ap suc (length_with columns values)

-- a row more
cells_kept : (k count : ℕ) (columns : List Filled) (values : List Value) → AreFull count columns → k < count → map (cell_at k) (with_values columns values) ≡ map (cell_at k) columns
cells_kept k count [] values full lt = refl
cells_kept k count (c ∷ columns) [] full lt = refl
cells_kept k count (c ∷ columns) (v ∷ values) full lt =
    (λ j. get_or_append_left c.values (v ∷ []) (value.Bool false) k (omega (arith, full.0)) j ∷ cells_kept k count columns values full.1 lt j)

cells_new : (count : ℕ) (columns : List Filled) (values : List Value) → AreFull count columns → length columns ≡ length values → map (cell_at count) (with_values columns values) ≡ values
cells_new count [] [] full same = refl
cells_new count [] (v ∷ values) full same = absurd (omega (arith, same))
cells_new count (c ∷ columns) [] full same = absurd (omega (arith, same))
cells_new count (c ∷ columns) (v ∷ values) full same =
    (λ j. get_or_push c.values v (value.Bool false) count full.0 j ∷ cells_new count columns values full.1 (omega (arith, same)) j)

pub rows_more : (n count : ℕ) (columns : List Filled) (offsets : List Offset) (values : List Value) (offset : Offset) → AreFull count columns → length columns ≡ length values → n + length offsets ≡ count → rows_from n (with_values columns values) (offsets ++ offset ∷ []) ≡ rows_from n columns offsets ++ record { offset = offset; row = record { values = values } } ∷ []
rows_more n count columns [] values offset full same size =
    let e : n ≡ count = omega (arith, size) in
    rw e (ap (λ (vs : List Value). record { offset = offset; row = record { values = vs } } ∷ []) (cells_new count columns values full same))
rows_more n count columns (o ∷ offsets) values offset full same size =
    let rest = rows_more (n + 1) count columns offsets values offset full same (omega (arith, size)) in
    (λ j. record { offset = o; row = record { values = cells_kept n count columns values full (omega (arith, size)) j } } ∷ rest j)

pub full_more : (count : ℕ) (columns : List Filled) (values : List Value) → AreFull count columns → length columns ≡ length values → AreFull (count + 1) (with_values columns values)
full_more count [] values full same = tt
full_more count (c ∷ columns) [] full same = absurd (omega (arith, same))
full_more count (c ∷ columns) (v ∷ values) full same =
    (omega (arith, length_push c.values v, full.0), full_more count columns values full.1 (omega (arith, same)))

pub shapes_kept : (columns : List Filled) (values : List Value) → map (λ column. column.shape) (with_values columns values) ≡ map (λ column. column.shape) columns
shapes_kept [] values = refl
shapes_kept (c ∷ columns) [] = refl
shapes_kept (c ∷ columns) (v ∷ values) = ap (λ shapes. c.shape ∷ shapes) (shapes_kept columns values)

-- one value after another
pub with_none : (columns : List Filled) → with_values columns [] ≡ columns
with_none [] = refl
with_none (c ∷ columns) = refl

pub column_kept : (columns : List Filled) (values : List Value) (place : ℕ) → length values ≤ place → slice_get (with_values columns values) place ≡ slice_get columns place
column_kept [] values place past = refl
column_kept (c ∷ columns) [] place past = refl
column_kept (c ∷ columns) (v ∷ values) zero past = absurd (omega (arith, past))
column_kept (c ∷ columns) (v ∷ values) (suc place) past = column_kept columns values place (omega (arith, past))

pub with_next : (columns : List Filled) (values : List Value) (place : ℕ) (column : Filled) (v : Value) → slice_get (with_values columns (take place values)) place ≡ Some column → slice_get values place ≡ Some v → set (with_values columns (take place values)) place (with_value column v) ≡ with_values columns (take (place + 1) values)
with_next [] values place column v e f = cc
with_next (c ∷ columns) [] place column v e f = cc
with_next (c ∷ columns) (u ∷ values) zero column v e f =
    let same : c ≡ column = same_Some c column e in
    let here : u ≡ v = same_Some u v f in
    rw (← same, ← here) (ap (λ cs. with_value c u ∷ cs) (sym (with_none columns)))
with_next (c ∷ columns) (u ∷ values) (suc place) column v e f =
    let more : suc place + 1 ≡ suc (place + 1) = omega arith in
    rw more (ap (λ cs. with_value c u ∷ cs) (with_next columns values place column v e f))

-- and all taken back
one_back : (c : Filled) (v : Value) → without_last (with_value c v) ≡ c
one_back c v = ap (λ vs. record c { values = vs }) (take_front (c.values ++ v ∷ []) c.values v refl)

pub taken_back : (columns : List Filled) (values : List Value) (n : ℕ) → length values ≡ n → n ≤ length columns → map without_last (take n (with_values columns values)) ++ drop n (with_values columns values) ≡ columns
taken_back columns [] n size within = rw (sym size) (with_none columns)
taken_back [] (v ∷ values) n size within = absurd (omega (arith, size, within))
taken_back (c ∷ columns) (v ∷ values) zero size within = absurd (omega (arith, size))
taken_back (c ∷ columns) (v ∷ values) (suc n) size within =
    (λ j. one_back c v j ∷ taken_back columns values n (omega (arith, size)) (omega (arith, within)) j)

some_by_recursion : (columns : List Filled) (values : List Value) (n : ℕ) → length values ≡ n → AllByRecursion (λ column. 0 < length column.values) (take n (with_values columns values))
some_by_recursion columns [] n size = rw (sym size) tt
some_by_recursion [] (v ∷ values) zero size = tt
some_by_recursion [] (v ∷ values) (suc n) size = tt
some_by_recursion (c ∷ columns) (v ∷ values) zero size = tt
some_by_recursion (c ∷ columns) (v ∷ values) (suc n) size =
    (omega (arith, length_push c.values v), some_by_recursion columns values n (omega (arith, size)))

pub have_some : (columns : List Filled) (values : List Value) (n : ℕ) → length values ≡ n → All (λ column. 0 < length column.values) (take n (with_values columns values))
have_some columns values n size = All-from_recursion (λ column. 0 < length column.values) (take n (with_values columns values)) (some_by_recursion columns values n size)

-- a row by its number
pub row_found : (n : ℕ) (columns : List Filled) (offsets : List Offset) (k : ℕ) → k < length offsets → slice_get (map (λ placed. placed.row) (rows_from n columns offsets)) k ≡ Some (row_at (n + k) columns)
row_found n columns [] k lt = absurd (omega (arith, lt))
row_found n columns (offset ∷ offsets) zero lt = let e : n + 0 ≡ n = omega arith in rw e refl
row_found n columns (offset ∷ offsets) (suc k) lt =
    let e : n + suc k ≡ (n + 1) + k = omega arith in
    rw e (row_found (n + 1) columns offsets k (omega (arith, lt)))

pub offsets_of : (n : ℕ) (columns : List Filled) (offsets : List Offset) → map (λ placed. placed.offset) (rows_from n columns offsets) ≡ offsets
offsets_of n columns [] = refl
offsets_of n columns (offset ∷ offsets) = ap (λ os. offset ∷ os) (offsets_of (n + 1) columns offsets)

full_by_recursion : (count number : ℕ) (columns : List Filled) → AreFull count columns → number < count → AllByRecursion (λ column. number < length column.values) columns
full_by_recursion count number [] full lt = tt
full_by_recursion count number (c ∷ columns) full lt = (omega (arith, full.0), full_by_recursion count number columns full.1 lt)

pub have_row : (count number : ℕ) (columns : List Filled) → AreFull count columns → number < count → All (λ column. number < length column.values) columns
have_row count number columns full lt = All-from_recursion (λ column. number < length column.values) columns (full_by_recursion count number columns full lt)

room_by_recursion : (count limit : ℕ) (columns : List Filled) → AreFull count columns → count < limit → AllByRecursion (λ column. length column.values < limit) columns
room_by_recursion count limit [] full lt = tt
room_by_recursion count limit (c ∷ columns) full lt = (omega (arith, full.0), room_by_recursion count limit columns full.1 lt)

pub have_room : (count limit : ℕ) (columns : List Filled) → AreFull count columns → count < limit → All (λ column. length column.values < limit) columns
have_room count limit columns full lt = All-from_recursion (λ column. length column.values < limit) columns (room_by_recursion count limit columns full lt)
