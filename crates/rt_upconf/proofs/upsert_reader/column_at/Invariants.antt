use Rattle.std.proofs.Common.{◌≡◌, drop}
use Rattle.rt_upconf.specs.Upsert.{column_at}
use Rattle.rt_upconf.proofs.upsert_reader.column_at.Given as goal

abbrev pub invariant-loop-column : goal.invariant-loop-column
invariant-loop-column l = column_at l.name (drop l.column-index l.columns) ≡ column_at l.name l.columns
