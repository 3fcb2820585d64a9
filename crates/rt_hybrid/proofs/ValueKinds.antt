-- The values of rows of objects: their kinds, and that they are short.
use Rattle.std.proofs.Common.{◌≡◌, zero, suc, true, ◌&&◌, List, [], ◌∷◌, length, map, Option, Some, None, option_map, option_and_then, All, refl, ◌∙◌, arith}
use Rattle.std.specs.Prelude.{unwrap_or}
use Rattle.std.specs.List.{list_all}
use Rattle.std.proofs.lemmas.Bool.{and_parts, leb-true}
use Rattle.std.proofs.lemmas.List.Folds.{list_all-map}
use Rattle.serde_json.specs.Data.{Data, null, boolean, number, string, array, object}
use Rattle.serde_json.specs.Find.{get, as_i64, as_number, as_str, as_bool}
use Rattle.rt_schema.specs.Row.{IsRowOf}
use Rattle.rt_schema.specs.Value.{kind_of, missing_of, in_32_bits, value_of, cell_of}
use Rattle.rt_schema.specs.declared.column.Column.{Column}
use Rattle.rt_schema.specs.declared.column.Kind.{Kind}
use Rattle.rt_schema.specs.declared.column.Kind.TheVariants.{Int, Long, Text, Bool as Truth, Time}
use Rattle.rt_schema.specs.declared.column.Role.{Role}
use Rattle.rt_schema.specs.declared.column.Role.TheVariants.{Dimension, Metric, Moment}
use Rattle.rt_schema.specs.declared.row.Row.{Row}
use Rattle.rt_schema.specs.declared.schema.Schema.{Schema}
use Rattle.rt_schema.specs.declared.value.Value.{Value}
use Rattle.rt_schema.specs.declared.value.Value.TheVariants as value
use Rattle.rt_mutable.specs.Consuming.{IsShort}
use Rattle.rt_hybrid.specs.Batch.{is_short}
use Rattle.rt_hybrid.specs.Cells.{value_in}
use Rattle.rt_hybrid.proofs.ObjectRows.{has_cell, is_good, is_object, is_short_in, row_at}

missing_kind : (kind : Kind) (role : Role) → kind_of (missing_of kind role) ≡ kind
missing_kind Int Dimension = refl
missing_kind Int Metric = refl
missing_kind Int Moment = refl
missing_kind Long Dimension = refl
missing_kind Long Metric = refl
missing_kind Long Moment = refl
missing_kind Text role = refl
missing_kind Truth role = refl
missing_kind Time role = refl

-- a value that is there is of this kind, and so is the one in its place
abbrev IsOf : Column → Option Value → Type 0
IsOf column o = kind_of (unwrap_or o (missing_of column.kind column.role)) ≡ column.kind

of_map : {A : Type 0} (f : A → Value) (column : Column) (o : Option A) → ((a : A) → kind_of (f a) ≡ column.kind) → IsOf column (option_map f o)
of_map f column None h = missing_kind column.kind column.role
of_map f column (Some a) h = h a

value_kind : (column : Column) (kind : Kind) (d : Data) → kind ≡ column.kind → IsOf column (value_of kind d)
value_kind column Int d e = of_map value.Int column (option_and_then in_32_bits (option_and_then as_i64 (as_number d))) (λ _. e)
value_kind column Long d e = of_map value.Long column (option_and_then as_i64 (as_number d)) (λ _. e)
value_kind column Text d e = of_map value.Text column (as_str d) (λ _. e)
value_kind column Truth d e = of_map value.Bool column (as_bool d) (λ _. e)
value_kind column Time d e = of_map value.Time column (option_and_then as_i64 (as_number d)) (λ _. e)

cell_kind : (column : Column) (found : Option Data) → IsOf column (cell_of column found)
cell_kind column None = missing_kind column.kind column.role
cell_kind column (Some null) = missing_kind column.kind column.role
cell_kind column (Some (boolean b)) = value_kind column column.kind (boolean b) refl
cell_kind column (Some (number n)) = value_kind column column.kind (number n) refl
cell_kind column (Some (string s)) = value_kind column column.kind (string s) refl
cell_kind column (Some (array ds)) = value_kind column column.kind (array ds) refl
cell_kind column (Some (object ms)) = value_kind column column.kind (object ms) refl

kinds_of : (d : Data) (columns : List Column) → map kind_of (map (value_in d) columns) ≡ map (λ column. column.kind) columns
kinds_of d [] = refl
kinds_of d (c ∷ columns) = (λ j. cell_kind c (get c.name d) j ∷ kinds_of d columns j)

-- the row of an object in some columns is a row of a schema of these
pub row_is : (schema : Schema) (d : Data) → IsRowOf schema (row_at schema.columns d)
row_is schema d = kinds_of d schema.columns

pub rows_are : (schema : Schema) (items : List Data) → All (IsRowOf schema) (map (row_at schema.columns) items)
rows_are schema [] k d h = absurd (omega (arith, h))
rows_are schema (item ∷ items) zero d h = row_is schema item
rows_are schema (item ∷ items) (suc k) d h = rows_are schema items k d (omega (arith, h))

-- ---- short values

short_value : (v : Value) → is_short v ≡ true → IsShort v
short_value (value.Int z) e = tt
short_value (value.Long z) e = tt
short_value (value.Text s) e = leb-true (length s) 65536 e
short_value (value.Bool b) e = tt
short_value (value.Time z) e = tt

short_all : (vs : List Value) → list_all is_short vs ≡ true → All IsShort vs
short_all [] e k d h = absurd (omega (arith, h))
short_all (v ∷ vs) e zero d h = short_value v (and_parts (is_short v) (list_all is_short vs) e).0
short_all (v ∷ vs) e (suc k) d h = short_all vs (and_parts (is_short v) (list_all is_short vs) e).1 k d (omega (arith, h))

-- no text of a row of an object that is taken is too long
short_row : (columns : List Column) (d : Data) → is_good columns d ≡ true → All IsShort (row_at columns d).values
short_row columns d good =
    let parts = and_parts (is_object d) (list_all (has_cell d) columns && list_all (is_short_in d) columns) good in
    short_all (map (value_in d) columns) (list_all-map is_short (value_in d) columns ∙ (and_parts (list_all (has_cell d) columns) (list_all (is_short_in d) columns) parts.1).1)

pub rows_short : (columns : List Column) (items : List Data) → list_all (is_good columns) items ≡ true → All (λ (row : Row). All IsShort row.values) (map (row_at columns) items)
rows_short columns [] good k d h = absurd (omega (arith, h))
rows_short columns (item ∷ items) good zero d h = short_row columns item (and_parts (is_good columns item) (list_all (is_good columns) items) good).0
rows_short columns (item ∷ items) good (suc k) d h = rows_short columns items (and_parts (is_good columns item) (list_all (is_good columns) items) good).1 k d (omega (arith, h))
