use Rattle.std.proofs.Common.{take}
use Rattle.std.specs.List.{All}
use Rattle.rt_segment.specs.Column.{IsColumn}
use Rattle.rt_segment.proofs.table.are_whole.Given as goal

abbrev pub invariant-loop-column : goal.invariant-loop-column
invariant-loop-column l = All IsColumn (take l.column-index l.columns)
