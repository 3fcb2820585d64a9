-- The latest row of each key.
use Rattle.std.specs.Prelude.{ℕ, ◌+◌, ℤ, Bool, false, not, ◌&&◌, List, [], ◌∷◌, map, filter, slice_index_or, if◌then◌else◌}
use Rattle.std.specs.List.{list_any}
use Rattle.std.specs.Str.{bytes_eq}
use Rattle.std.specs.Cmp.Lexicographic.{pointwise}
use Rattle.std.specs.Ordering.{is_lt, ordering_then, int_cmp}
use Rattle.rt_schema.specs.declared.column.Column.{Column}
use Rattle.rt_schema.specs.declared.row.Row.{Row}
use Rattle.rt_schema.specs.declared.schema.Schema.{Schema}
use Rattle.rt_schema.specs.declared.value.Value.{Value}
use Rattle.rt_schema.specs.declared.value.Value.TheVariants.{Bool as Truth}
use Rattle.rt_schema.specs.contracts.value.ValuePartialEq.TheImpl as value_eq
use Rattle.rt_model.specs.Values.{number_of}
use Rattle.rt_upconf.specs.declared.upsert_config.UpsertConfig.{UpsertConfig}
use Rattle.rt_upsert.specs.Placed.{Placed, PlacedRows, place_cmp, kinds_of}

-- the place of the first column of a name
abbrev pub place_of : List ℕ → List Column → ℕ
place_of name [] = 0
place_of name (column ∷ columns) = if bytes_eq name column.name then 0 else place_of name columns + 1

-- no row, for the settings of a schema
abbrev pub start_of : Schema → UpsertConfig → PlacedRows
start_of schema config =
    record {
      kinds = kinds_of schema;
      keys = map (λ key. place_of key schema.columns) config.keys;
      compare = place_of config.compare schema.columns;
      rows = [];
    }

abbrev pub value_in : Row → ℕ → Value
value_in row place = slice_index_or row.values place (Truth false)

-- the key values of a row
abbrev pub key_of : List ℕ → Row → List Value
key_of places row = map (value_in row) places

-- the comparison value of a row
abbrev pub compare_of : ℕ → Row → ℤ
compare_of place row = number_of (value_in row place)

-- key values are equal where each value is
abbrev pub same_key : List Value → List Value → Bool
same_key = pointwise value_eq.eq-value.it

-- a row's comparison value is less than another's, or the same and its place less
abbrev pub is_before : ℕ → Placed → Placed → Bool
is_before compare x y = is_lt (ordering_then (int_cmp (compare_of compare x.row) (compare_of compare y.row)) (place_cmp x.place y.place))

-- a row hides those with equal key values that are before it
abbrev pub hides : PlacedRows → Placed → Placed → Bool
hides held y x = same_key (key_of held.keys y.row) (key_of held.keys x.row) && is_before held.compare x y

abbrev pub is_hidden : PlacedRows → Placed → Bool
is_hidden held x = list_any (λ y. hides held y x) held.rows

-- those rows, in place order, that no other row hides
abbrev pub latest_of : PlacedRows → List Placed
latest_of held = filter (λ x. not (is_hidden held x)) held.rows

abbrev pub rows_in : List Placed → List Row
rows_in placed = map (λ x. x.row) placed
