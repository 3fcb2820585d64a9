-- What is read of a text that is pushed.
use Rattle.std.specs.Prelude.{◌≡◌, ℕ, ℤ, List, map, fold, Option, Some, None, Result, Ok, Err}
use Rattle.serde_json.specs.Data.{Data}
use Rattle.rt_schema.specs.declared.column.Column.{Column}
use Rattle.rt_schema.specs.declared.schema.Schema.{Schema}
use Rattle.rt_hybrid.specs.declared.batch.Batch.{Batch}
use Rattle.rt_hybrid.specs.declared.hybrid_refused.HybridRefused.{HybridRefused}
use Rattle.rt_hybrid.specs.declared.hybrid_refused.HybridRefused.TheVariants.{NoTime, NotRows, Memory}
use Rattle.rt_hybrid.specs.Batch.{columns_kept, items_pushed, rows_in}
use Rattle.rt_hybrid.specs.Cells.{time_in}
use Rattle.rt_hybrid.specs.Table.{greater_of}

-- the columns that some objects have, their rows in these, and the greatest of an earlier time and theirs
pub record IsBatch (schema : Schema) (time : Column) (before : Option ℤ) (items : List Data) (batch : Batch) : Type 0 where
  pub columns : batch.columns ≡ columns_kept schema.columns items
  pub rows : rows_in batch.columns items ≡ Some batch.rows
  pub greatest : batch.greatest ≡ fold greater_of before (map (time_in time) items)

abbrev pub ReadsOf : Schema → Column → Option ℤ → List Data → Result Batch HybridRefused → Type 0
ReadsOf schema time greatest items (Ok batch) = IsBatch schema time greatest items batch
ReadsOf schema time greatest items (Err NoTime) = ⊥
ReadsOf schema time greatest items (Err NotRows) = rows_in (columns_kept schema.columns items) items ≡ None
ReadsOf schema time greatest items (Err Memory) = Unit {0}

-- the objects of a text, where it has no more than a push takes, and at least one
abbrev pub ReadsIf : Schema → Column → Option ℤ → Option (List Data) → Result Batch HybridRefused → Type 0
ReadsIf schema time greatest None (Ok batch) = ⊥
ReadsIf schema time greatest None (Err NoTime) = ⊥
ReadsIf schema time greatest None (Err NotRows) = Unit {0}
ReadsIf schema time greatest None (Err Memory) = Unit {0}
ReadsIf schema time greatest (Some items) result = ReadsOf schema time greatest items result

abbrev pub Reads : Schema → Column → Option ℤ → List ℕ → Result Batch HybridRefused → Type 0
Reads schema time greatest text result = ReadsIf schema time greatest (items_pushed text) result
