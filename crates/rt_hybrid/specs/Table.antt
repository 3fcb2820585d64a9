-- The offline rows of a hybrid table, in files, and the boundary between their side and the realtime side.
use Rattle.std.specs.Prelude.{ℕ, ℤ, pos, ◌-ℤ◌, suc, Bool, true, false, List, [], ◌∷◌, ◌++◌, map, fold, bytes_eq, ◌&&◌, Option, Some, None, option_map, slice_index_or, int_lt, if◌then◌else◌}
use Rattle.std.specs.Int.{saturate_signed, w64}
use Rattle.rt_schema.specs.declared.column.Column.{Column}
use Rattle.rt_schema.specs.declared.column.Kind.{Kind}
use Rattle.rt_schema.specs.declared.column.Kind.TheVariants as kinds
use Rattle.rt_schema.specs.declared.row.Row.{Row}
use Rattle.rt_schema.specs.declared.schema.Schema.{Schema}
use Rattle.rt_schema.specs.declared.value.Value.TheVariants.{Bool as Truth}
use Rattle.rt_model.specs.Values.{number_of}
use Rattle.rt_segment.specs.Segment.{SealedSegment}
use Rattle.rt_scan.specs.Filled.{rows_as}

-- a table's schema, the place of its time column, and the files that were pushed
pub record OfflineTable : Type 0 where
  pub schema : Schema
  pub time : ℕ
  pub files : List SealedSegment

abbrev pub rows_of_files : Schema → List SealedSegment → List Row
rows_of_files schema [] = []
rows_of_files schema (file ∷ files) = rows_as schema file ++ rows_of_files schema files

-- the rows of all files, in the order of the pushes
abbrev pub offline_rows : OfflineTable → List Row
offline_rows table = rows_of_files table.schema table.files

-- ---- times

-- the columns whose values are times
abbrev pub is_time : Kind → Bool
is_time kinds.Int = false
is_time kinds.Long = true
is_time kinds.Text = false
is_time kinds.Bool = false
is_time kinds.Time = true

abbrev pub is_time_column : List ℕ → Column → Bool
is_time_column name column = bytes_eq name column.name && is_time column.kind

-- the place of the column of a name whose values are times
abbrev pub place_of : List ℕ → List Column → Option ℕ
place_of name [] = None
place_of name (column ∷ columns) = if is_time_column name column then Some 0 else option_map suc (place_of name columns)

-- the time of a row, that in the column at a place
abbrev pub time_of : ℕ → Row → ℤ
time_of place row = number_of (slice_index_or row.values place (Truth false))

-- ---- the boundary

-- the greater of a time and the greatest before it, where there is one
abbrev pub greater_of : Option ℤ → ℤ → Option ℤ
greater_of None time = Some time
greater_of (Some greatest) time = if int_lt greatest time then Some time else Some greatest

abbrev pub greatest_of : List ℤ → Option ℤ
greatest_of times = fold greater_of None times

-- one day before a time, no less than 64 bits hold
abbrev pub day_before : ℤ → ℤ
day_before time = saturate_signed w64 (time -ℤ pos 86400000)

-- one day before the greatest time of an offline row; none where nothing was pushed
abbrev pub boundary_of : OfflineTable → Option ℤ
boundary_of table = option_map day_before (greatest_of (map (time_of table.time) (offline_rows table)))

-- ---- the start

abbrev pub start_at : Schema → ℕ → OfflineTable
start_at schema place = record { schema = schema; time = place; files = [] }

-- the table of a schema before its first push, where the name is that of a time column
abbrev pub start_of : Schema → List ℕ → Option OfflineTable
start_of schema name = option_map (start_at schema) (place_of name schema.columns)
