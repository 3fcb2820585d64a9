-- The file of a push.
use Rattle.std.specs.Prelude.{◌≡◌, ℕ, true, false, List, length}
use Rattle.std.specs.List.{AllByRecursion}
use Rattle.rt_schema.specs.declared.column.Column.{Column}
use Rattle.rt_schema.specs.declared.row.Row.{Row}
use Rattle.rt_schema.specs.declared.schema.Schema.{Schema}
use Rattle.rt_segment.specs.Column.{SealedColumn}
use Rattle.rt_segment.specs.Segment.{SealedSegment, are_columns}
use Rattle.rt_scan.specs.Filled.{rows_as}

abbrev pub IsPlain : SealedColumn → Type 0
IsPlain column = column.indexed ≡ false

-- the file of a push: its number is the sequence, it has these columns by name and kind, in order, and as rows of the schema
-- its rows are these
pub record IsFileOf (schema : Schema) (pushes : ℕ) (kept : List Column) (pushed : List Row) (file : SealedSegment) : Type 0 where
  pub format : file.format ≡ 2
  pub partition : file.partition ≡ record { 0 = 0 }
  pub sequence : file.sequence ≡ record { 0 = pushes }
  pub range : file.range ≡ record { start = record { 0 = 0 }; end = record { 0 = length pushed } }
  pub columns : are_columns file.columns kept ≡ true
  pub plain : AllByRecursion IsPlain file.columns
  pub rows : rows_as schema file ≡ pushed
