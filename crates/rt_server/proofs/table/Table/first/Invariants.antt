use Rattle.std.proofs.Common.{◌≡◌}
use Rattle.rt_server.specs.Fresh.{first_segments}
use Rattle.rt_server.proofs.table.Table.first.Given as goal

abbrev pub invariant-loop-partition : goal.invariant-loop-partition
invariant-loop-partition l = l.table ≡ first_segments l.fn.setup l.fn.instance l.partition
