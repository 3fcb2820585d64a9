use Rattle.std.proofs.Common.{◌≡◌, drop}
use Rattle.std.specs.Prelude.{is_some}
use Rattle.rt_upconf.specs.Upsert.{column_at}
use Rattle.rt_upconf.proofs.upsert_reader.is_column.Given as goal

abbrev pub invariant-loop-column : goal.invariant-loop-column
invariant-loop-column l = is_some (column_at l.name (drop l.column-index l.columns)) ≡ is_some (column_at l.name l.columns)
