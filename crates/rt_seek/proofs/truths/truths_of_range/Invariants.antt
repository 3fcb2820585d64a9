use Rattle.std.proofs.Common.{◌≡◌, map}
use Rattle.std.specs.List.{range_with_len}
use Rattle.rt_seek.specs.Keys.{is_between}
use Rattle.rt_seek.proofs.truths.truths_of_range.Given as goal

abbrev pub invariant-loop-id : goal.invariant-loop-id
invariant-loop-id l = l.truths.items ≡ map (is_between l.start l.end) (range_with_len 0 l.id)
