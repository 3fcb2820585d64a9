use Rattle.std.proofs.Common.{◌≡◌, drop}
use Rattle.rt_schema.specs.Schema.{are_named}
use Rattle.rt_schema.proofs.schema_reader.are_named.Given as goal

abbrev pub invariant-loop-column : goal.invariant-loop-column
invariant-loop-column l = are_named (drop l.column-index l.columns) ≡ are_named l.columns
