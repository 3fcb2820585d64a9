use Rattle.std.proofs.Common.{◌≡◌, ◌++◌, take}
use Rattle.std.specs.List.{flat_map}
use Rattle.rt_segment.specs.Spelling.{column_bytes}
use Rattle.rt_segment.proofs.column_writer.write_columns.Given as goal

abbrev pub invariant-loop-column : goal.invariant-loop-column
invariant-loop-column l = l.out.items ≡ l.initial.out.items ++ flat_map (column_bytes l.format) (take l.column-index l.columns)
