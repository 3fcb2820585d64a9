use Rattle.std.proofs.Common.{◌≡◌, drop}
use Rattle.rt_names.specs.Table.{are_table_bytes}
use Rattle.rt_names.proofs.table.are_table_bytes.Given as goal

abbrev pub invariant-loop-byte : goal.invariant-loop-byte
invariant-loop-byte l = are_table_bytes (drop l.byte-index l.bytes) ≡ are_table_bytes l.bytes
