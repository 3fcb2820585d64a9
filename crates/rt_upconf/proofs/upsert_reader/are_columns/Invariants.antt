use Rattle.std.proofs.Common.{◌≡◌, drop}
use Rattle.rt_upconf.specs.Upsert.{are_columns}
use Rattle.rt_upconf.proofs.upsert_reader.are_columns.Given as goal

abbrev pub invariant-loop-name : goal.invariant-loop-name
invariant-loop-name l = are_columns l.columns (drop l.name-index l.names) ≡ are_columns l.columns l.names
