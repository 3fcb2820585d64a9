use Rattle.std.proofs.Common.{◌≡◌, ◌-◌, None, length}
use Rattle.rt_segment.specs.Reading.{values_at}
use Rattle.rt_segment.proofs.Loops.{with_front, last_in}
use Rattle.rt_segment.proofs.dictionary_reader.read_values.Given as goal

abbrev pub invariant-loop-value : goal.invariant-loop-value
invariant-loop-value g l = record {
  count : length l.dict ≡ l._value;
  so_far : with_front l.dict (values_at g.K.Key.below g.K.Stored.at (l.count - l._value) (last_in l.dict) l.cursor) ≡ values_at g.K.Key.below g.K.Stored.at l.count None l.initial.cursor;
}
