use Rattle.std.proofs.Common.{◌≡◌, drop}
use Rattle.rt_segment.specs.Reading.{numbers_at}
use Rattle.rt_segment.proofs.postings_reader.check_rows.Given as goal

abbrev pub invariant-loop-row : goal.invariant-loop-row
invariant-loop-row l = numbers_at (drop l.row-index l.rows) l.cursor ≡ numbers_at l.rows l.initial.cursor
