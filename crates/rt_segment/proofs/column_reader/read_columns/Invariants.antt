use Rattle.std.proofs.Common.{◌≡◌, ◌-◌, []}
use Rattle.rt_segment.specs.Reading.{columns_at}
use Rattle.rt_segment.proofs.Loops.{with_front}
use Rattle.rt_segment.proofs.ColumnLoop.{names}
use Rattle.rt_segment.proofs.column_reader.read_columns.Given as goal

abbrev pub invariant-loop-column : goal.invariant-loop-column
invariant-loop-column l = with_front l.columns (columns_at l.format l.rows (l.count - l._column) (names l.columns) l.cursor) ≡ columns_at l.format l.rows l.count [] l.initial.cursor
