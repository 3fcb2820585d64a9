use Rattle.std.proofs.Common.{◌≡◌, ◌++◌}
use Rattle.rt_entry.specs.Entry.{is_wanting}
use Rattle.rt_server.specs.Due.{segments_where}
use Rattle.rt_server.proofs.table.Table.wanted.Given as goal

abbrev pub invariant-loop-segment : goal.invariant-loop-segment
invariant-loop-segment l = l.wanted ++ segments_where is_wanting l.segment-iterator ≡ segments_where is_wanting l.self.entries
