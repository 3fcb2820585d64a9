use Rattle.std.proofs.Common.{◌≡◌, drop}
use Rattle.rt_schema.specs.Schema.{names_of, is_among}
use Rattle.rt_schema.proofs.table_reader.is_column.Given as goal

abbrev pub invariant-loop-column : goal.invariant-loop-column
invariant-loop-column l = is_among l.name (names_of (drop l.column-index l.columns)) ≡ is_among l.name (names_of l.columns)
