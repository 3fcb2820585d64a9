-- What the calls of a hybrid table give: the table of a schema, and the pushes.
use Rattle.std.specs.Prelude.{◌≡◌, ℕ, ℤ, true, ◌≤◌, List, [], ◌∷◌, ◌++◌, length, map, All, Option, Some, None, Result, Ok, Err, slice_get}
use Rattle.rt_schema.specs.declared.column.Column.{Column}
use Rattle.rt_schema.specs.declared.row.Row.{Row}
use Rattle.rt_schema.specs.declared.schema.Schema.{Schema}
use Rattle.rt_schema.specs.Row.{IsRowOf}
use Rattle.rt_schema.specs.Schema.{IsSchema}
use Rattle.rt_model.specs.declared.query_parts.ColumnAt.{ColumnAt}
use Rattle.rt_segment.specs.Segment.{SealedSegment}
use Rattle.rt_scan.specs.Filled.{HasKinds, rows_as}
use Rattle.rt_hybrid.specs.declared.hybrid_refused.HybridRefused.{HybridRefused}
use Rattle.rt_hybrid.specs.declared.hybrid_refused.HybridRefused.TheVariants.{NoTime, NotRows, Memory}
use Rattle.rt_hybrid.specs.Batch.{columns_pushed, rows_pushed}
use Rattle.rt_hybrid.specs.Files.{IsFileOf}
use Rattle.rt_hybrid.specs.Table.{OfflineTable, greatest_of, is_time, offline_rows, start_of, time_of}

-- a table is made exactly where the name is that of a time column
abbrev pub Makes : Schema → List ℕ → Result OfflineTable HybridRefused → Type 0
Makes schema name (Ok table) = start_of schema name ≡ Some table
Makes schema name (Err NoTime) = start_of schema name ≡ None
Makes schema name (Err NotRows) = ⊥
Makes schema name (Err Memory) = Unit {0}

-- a file was put behind the others: that of these rows
pub record Gains (text : List ℕ) (rows : List Row) (old new : OfflineTable) : Type 0 where
  pub file : SealedSegment
  pub is_file : IsFileOf old.schema (length old.files) (columns_pushed old.schema text) rows file
  pub behind : new ≡ record old { files = old.files ++ file ∷ [] }

-- a text is pushed exactly where it has rows, and their number is answered; else nothing changes
abbrev pub Pushes : List ℕ → OfflineTable → OfflineTable → Result ℕ HybridRefused → Type 0
Pushes text old new (Ok count) =
    (rows : List Row) × (rows_pushed old.schema text ≡ Some rows) × (count ≡ length rows) × Gains text rows old new
Pushes text old new (Err NoTime) = ⊥
Pushes text old new (Err NotRows) = (rows_pushed old.schema text ≡ None) × (new ≡ old)
Pushes text old new (Err Memory) = new ≡ old

-- ---- what is true of every table

-- a file that was pushed: it has rows of the schema, and its columns of the schema's names have the schema's kinds
pub record IsPushed (schema : Schema) (file : SealedSegment) : Type 0 where
  pub rows : (1 ≤ file.rows) × (file.rows ≤ 10000)
  pub kinds : HasKinds schema file
  pub fit : All (IsRowOf schema) (rows_as schema file)

-- the schema has a time column at a place
pub record IsTimed (columns : List Column) (place : ℕ) : Type 0 where
  pub column : Column
  pub at : slice_get columns place ≡ Some column
  pub kind : is_time column.kind ≡ true

-- the time column, as a query names it
pub record IsTimeAt (table : OfflineTable) (at : ColumnAt) : Type 0 where
  pub place : at.place ≡ table.time
  pub column : Column
  pub there : slice_get table.schema.columns at.place ≡ Some column
  pub kind : is_time column.kind ≡ true
  pub name : column.name ≡ at.name

pub record IsOffline (table : OfflineTable) (latest : Option ℤ) : Type 0 where
  pub schema : IsSchema table.schema
  pub timed : IsTimed table.schema.columns table.time
  pub few : length table.files ≤ 4294967295
  pub pushed : All (IsPushed table.schema) table.files
  pub greatest : latest ≡ greatest_of (map (time_of table.time) (offline_rows table))
