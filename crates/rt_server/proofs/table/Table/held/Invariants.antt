use Rattle.std.proofs.Common.{◌≡◌, ◌++◌}
use Rattle.rt_entry.specs.Entry.{is_replica}
use Rattle.rt_server.specs.Due.{segments_where}
use Rattle.rt_server.proofs.table.Table.held.Given as goal

abbrev pub invariant-loop-segment : goal.invariant-loop-segment
invariant-loop-segment l = l.held.items ++ segments_where is_replica l.segment-iterator ≡ segments_where is_replica l.self.entries
