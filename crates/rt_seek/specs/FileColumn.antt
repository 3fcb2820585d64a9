-- The values of a column of a file, or of one that the file lacks.
use Rattle.std.specs.Prelude.{ℕ, List, replicate}
use Rattle.rt_schema.specs.declared.value.Value.{Value}
use Rattle.rt_segment.specs.Column.{values_in, values_of}
use Rattle.rt_seek.specs.declared.file_column.FileColumn.{FileColumn}
use Rattle.rt_seek.specs.declared.file_column.FileColumn.TheVariants.{Held, Missing}
use Rattle.rt_seek.specs.Table.{item_at}

abbrev pub file_values : FileColumn → List Value
file_values (Held column) = values_of column.now
file_values (Missing value rows) = replicate rows value

abbrev pub file_value_of : FileColumn → ℕ → Value
file_value_of (Held column) id = item_at (values_in column.now.dictionary) id
file_value_of (Missing value rows) id = value
