use Rattle.std.proofs.Common.{◌≡◌, ◌-◌, length}
use Rattle.rt_segment.specs.Reading.{first_unused}
use Rattle.rt_segment.proofs.ids_reader.unmarked.Given as goal

abbrev pub invariant-loop-id : goal.invariant-loop-id
invariant-loop-id l = first_unused (length l.used - l.id) l.id l.ids ≡ first_unused (length l.used) 0 l.ids
