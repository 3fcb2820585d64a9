-- The rows of a file as rows of a schema: a column that the file lacks has its missing value in every row.
use Rattle.std.specs.Prelude.{◌≡◌, ℕ, true, List, [], ◌∷◌, replicate, bytes_eq, Option, Some, None, if◌then◌else◌}
use Rattle.std.specs.List.{AllByRecursion}
use Rattle.rt_schema.specs.declared.column.Column.{Column}
use Rattle.rt_schema.specs.declared.row.Row.{Row}
use Rattle.rt_schema.specs.declared.schema.Schema.{Schema}
use Rattle.rt_schema.specs.declared.value.Value.{Value}
use Rattle.rt_schema.specs.Value.{missing_of}
use Rattle.rt_segment.specs.Column.{SealedColumn, values_of}
use Rattle.rt_segment.specs.Segment.{SealedSegment, is_column}
use Rattle.rt_seek.specs.Table.{rows_by}

-- the file's column of a schema's name and kind
abbrev pub stored_as : Column → List SealedColumn → Option SealedColumn
stored_as column [] = None
stored_as column (s ∷ stored) = if is_column s column then Some s else stored_as column stored

abbrev pub values_or : Column → ℕ → Option SealedColumn → List Value
values_or column rows None = replicate rows (missing_of column.kind column.role)
values_or column rows (Some s) = values_of s

-- the values of a schema's column in so many rows of a file
abbrev pub values_as : List SealedColumn → ℕ → Column → List Value
values_as stored rows column = values_or column rows (stored_as column stored)

-- the rows of a file as rows of a schema
abbrev pub rows_as : Schema → SealedSegment → List Row
rows_as schema sealed = rows_by (values_as sealed.columns sealed.rows) schema.columns sealed.rows

-- a column of a file that has the name of a schema's column has its kind
abbrev pub HasKindOf : Column → SealedColumn → Type 0
HasKindOf column stored = bytes_eq stored.name column.name ≡ true → is_column stored column ≡ true

-- no column of the file has the name of one of the schema's and another kind
abbrev pub HasKinds : Schema → SealedSegment → Type 0
HasKinds schema sealed = AllByRecursion (λ (column : Column). AllByRecursion (HasKindOf column) sealed.columns) schema.columns
