-- The rows of objects: which objects have one, and what it is.
use Rattle.std.proofs.Common.{◌≡◌, Bool, true, false, cond, ◌&&◌, List, [], ◌∷◌, map, filter, Option, Some, None, option_map, option_and_then, true≢false, refl, sym, ap, ◌∙◌}
use Rattle.std.specs.Prelude.{is_some, unwrap_or}
use Rattle.std.specs.List.{list_all}
use Rattle.std.proofs.lemmas.List.Folds.{list_all-map}
use Rattle.serde_json.specs.Data.{Data, null, boolean, number, string, array, object, Members}
use Rattle.serde_json.specs.Find.{get, as_object}
use Rattle.rt_lists.specs.Members.{Has}
use Rattle.rt_schema.specs.Row.{row_in}
use Rattle.rt_schema.specs.Value.{cell_of, missing_of}
use Rattle.rt_schema.specs.declared.column.Column.{Column}
use Rattle.rt_schema.specs.declared.column.Kind.{Kind}
use Rattle.rt_schema.specs.declared.column.Kind.TheVariants as kinds
use Rattle.rt_schema.specs.declared.column.Role.{Role}
use Rattle.rt_schema.specs.declared.column.Role.TheVariants.{Dimension, Metric, Moment}
use Rattle.rt_schema.specs.declared.row.Row.{Row}
use Rattle.rt_schema.specs.declared.value.Value.{Value}
use Rattle.rt_hybrid.specs.Batch.{columns_kept, if_short, is_named, is_short, or_first, row_pushed, rows_in}
use Rattle.rt_hybrid.specs.Cells.{cell_at, cells_in, value_in}
use Rattle.rt_hybrid.proofs.Lists.{all_same, kept_all, map_all_form, none_at}

abbrev pub is_object : Data → Bool
is_object d = is_some (as_object d)

abbrev pub has_cell : Data → Column → Bool
has_cell d column = is_some (cell_at d column)

abbrev pub is_short_in : Data → Column → Bool
is_short_in d column = is_short (value_in d column)

-- an object has a value of each column's kind, which is short
abbrev pub is_good : List Column → Data → Bool
is_good columns d = is_object d && (list_all (has_cell d) columns && list_all (is_short_in d) columns)

abbrev pub row_at : List Column → Data → Row
row_at columns d = record { values = map (value_in d) columns }

unwrapped : (v : Value) (o : Option Value) → o ≡ cond (is_some o) (Some (unwrap_or o v)) None
unwrapped v None = refl
unwrapped v (Some w) = refl

cell_form : (d : Data) (column : Column) → cell_at d column ≡ cond (has_cell d column) (Some (value_in d column)) None
cell_form d column = unwrapped (missing_of column.kind column.role) (cell_at d column)

cells_form : (columns : List Column) (d : Data) → cells_in d columns ≡ cond (list_all (has_cell d) columns) (Some (map (value_in d) columns)) None
cells_form columns d = map_all_form (cell_at d) (has_cell d) (value_in d) (cell_form d) columns

shorten : (row : Row) (b c : Bool) → option_and_then if_short (option_map (λ vs. record { values = vs }) (cond b (Some row.values) None)) ≡ cond b (if_short row) None
shorten row true c = refl
shorten row false c = refl

short_form : (columns : List Column) (d : Data) (b : Bool) → cond b (if_short (row_at columns d)) None ≡ cond (b && list_all (is_short_in d) columns) (Some (row_at columns d)) None
short_form columns d true = ap (λ c. cond c (Some (row_at columns d)) None) (list_all-map is_short (value_in d) columns)
short_form columns d false = refl

pushed_object : (columns : List Column) (ms : Members) → row_pushed columns (object ms) ≡ cond (is_good columns (object ms)) (Some (row_at columns (object ms))) None
pushed_object columns ms =
    ap (λ o. option_and_then if_short (option_map (λ vs. record { values = vs }) o)) (cells_form columns (object ms))
    ∙ shorten (row_at columns (object ms)) (list_all (has_cell (object ms)) columns) true
    ∙ short_form columns (object ms) (list_all (has_cell (object ms)) columns)

-- the row of an object, by a test
pub pushed_form : (columns : List Column) (d : Data) → row_pushed columns d ≡ cond (is_good columns d) (Some (row_at columns d)) None
pushed_form columns null = refl
pushed_form columns (boolean b) = refl
pushed_form columns (number n) = refl
pushed_form columns (string s) = refl
pushed_form columns (array ds) = refl
pushed_form columns (object ms) = pushed_object columns ms

pub rows_form : (columns : List Column) (items : List Data) → rows_in columns items ≡ cond (list_all (is_good columns) items) (Some (map (row_at columns) items)) None
rows_form columns items = map_all_form (row_pushed columns) (is_good columns) (row_at columns) (pushed_form columns) items

-- an object with these cells has this row
pub row_of_cells : (columns : List Column) (d : Data) (vs : List Value) → is_object d ≡ true → Some vs ≡ cells_in d columns → Some (record { values = vs }) ≡ row_in columns d
row_of_cells columns null vs is e = absurd (true≢false (sym is))
row_of_cells columns (boolean b) vs is e = absurd (true≢false (sym is))
row_of_cells columns (number n) vs is e = absurd (true≢false (sym is))
row_of_cells columns (string s) vs is e = absurd (true≢false (sym is))
row_of_cells columns (array ds) vs is e = absurd (true≢false (sym is))
row_of_cells columns (object ms) vs is e = ap (option_map (λ values. record { values = values })) e

-- ---- a column that no object has

missing_short : (kind : Kind) (role : Role) → is_short (missing_of kind role) ≡ true
missing_short kinds.Int Dimension = refl
missing_short kinds.Int Metric = refl
missing_short kinds.Int Moment = refl
missing_short kinds.Long Dimension = refl
missing_short kinds.Long Metric = refl
missing_short kinds.Long Moment = refl
missing_short kinds.Text role = refl
missing_short kinds.Bool role = refl
missing_short kinds.Time role = refl

no_key : (o : Option Data) → is_some o ≡ false → o ≡ None
no_key None e = refl
no_key (Some d) e = absurd (true≢false e)

-- an object has no key of a column that none has
pub unnamed : (items : List Data) (column : Column) (d : Data) → Has items d → is_named items column ≡ false → get column.name d ≡ None
unnamed items column d at e = no_key (get column.name d) (none_at (λ item. is_some (get column.name item)) items d e at)

-- so it has the missing value there
pub missing_value : (column : Column) (d : Data) → get column.name d ≡ None → value_in d column ≡ missing_of column.kind column.role
missing_value column d e = ap (λ o. unwrap_or (cell_of column o) (missing_of column.kind column.role)) e

missing_cell : (column : Column) (d : Data) → get column.name d ≡ None → has_cell d column ≡ true
missing_cell column d e = ap (λ o. is_some (cell_of column o)) e

missing_is_short : (column : Column) (d : Data) → get column.name d ≡ None → is_short_in d column ≡ true
missing_is_short column d e = ap is_short (missing_value column d e) ∙ missing_short column.kind column.role

-- ---- the columns that are kept

firsts : (p q : Column → Bool) (columns kept : List Column) → filter q columns ≡ kept → ((c : Column) → q c ≡ false → p c ≡ true) → list_all p kept ≡ list_all p columns
    → list_all p (or_first columns kept) ≡ list_all p columns
firsts p q columns (c ∷ kept) is h same = same
firsts p q [] [] is h same = refl
firsts p q (c ∷ columns) [] is h same = by (q c) refl is
  where
    by : (b : Bool) → q c ≡ b → cond b (c ∷ filter q columns) (filter q columns) ≡ [] → (p c && true) ≡ (p c && list_all p columns)
    by true e f = absurd (cc)
    by false e f = ap (λ b. b && true) (h c e) ∙ same

-- a test that a column passes where it isn't kept
pub kept_test : (p q : Column → Bool) (columns : List Column) → ((c : Column) → q c ≡ false → p c ≡ true) → list_all p (or_first columns (filter q columns)) ≡ list_all p columns
kept_test p q columns h = firsts p q columns (filter q columns) refl h (kept_all p q columns h)

good_same : (columns : List Column) (items : List Data) (d : Data) → Has items d → is_good (columns_kept columns items) d ≡ is_good columns d
good_same columns items d at =
    ap (λ b. is_object d && (b && list_all (is_short_in d) (columns_kept columns items))) (kept_test (has_cell d) (is_named items) columns (λ c e. missing_cell c d (unnamed items c d at e)))
    ∙ ap (λ b. is_object d && (list_all (has_cell d) columns && b)) (kept_test (is_short_in d) (is_named items) columns (λ c e. missing_is_short c d (unnamed items c d at e)))

-- objects have rows in the kept columns exactly where they have rows in all
pub kept_same : (columns : List Column) (items : List Data) → list_all (is_good (columns_kept columns items)) items ≡ list_all (is_good columns) items
kept_same columns items = all_same (is_good (columns_kept columns items)) (is_good columns) items (λ d at. good_same columns items d at)

pub none_kept : (columns : List Column) (items : List Data) → rows_in (columns_kept columns items) items ≡ None → rows_in columns items ≡ None
none_kept columns items e = by (list_all (is_good columns) items) refl
  where
    by : (b : Bool) → list_all (is_good columns) items ≡ b → rows_in columns items ≡ None
    by false is = rows_form columns items ∙ ap (λ c. cond c (Some (map (row_at columns) items)) None) is
    by true is = absurd (cc (rows_form (columns_kept columns items) items ∙ ap (λ c. cond c (Some (map (row_at (columns_kept columns items)) items)) None) (kept_same columns items ∙ is)))

some_by : (columns : List Column) (items : List Data) (rows : List Row) (b : Bool) → list_all (is_good columns) items ≡ b → cond b (Some (map (row_at columns) items)) None ≡ Some rows
    → (list_all (is_good columns) items ≡ true) × (rows ≡ map (row_at columns) items)
some_by columns items rows true is e = (is, cc)
some_by columns items rows false is e = absurd (cc)

pub some_rows : (columns : List Column) (items : List Data) (rows : List Row) → rows_in columns items ≡ Some rows → (list_all (is_good columns) items ≡ true) × (rows ≡ map (row_at columns) items)
some_rows columns items rows e = some_by columns items rows (list_all (is_good columns) items) refl (sym (rows_form columns items) ∙ e)

-- the rows in all columns, where there are rows in the kept ones
pub some_kept : (columns : List Column) (items : List Data) (rows : List Row) → rows_in (columns_kept columns items) items ≡ Some rows → rows_in columns items ≡ Some (map (row_at columns) items)
some_kept columns items rows e =
    rows_form columns items ∙ ap (λ c. cond c (Some (map (row_at columns) items)) None) (sym (kept_same columns items) ∙ (some_rows (columns_kept columns items) items rows e).0)
