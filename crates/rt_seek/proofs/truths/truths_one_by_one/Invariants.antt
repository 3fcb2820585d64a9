use Rattle.std.proofs.Common.{◌≡◌, map, take}
use Rattle.rt_seek.specs.Keys.{key_passes}
use Rattle.rt_seek.proofs.truths.truths_one_by_one.Given as goal

abbrev pub invariant-loop-id : goal.invariant-loop-id
invariant-loop-id g l = l.truths.items ≡ map (key_passes g.K.Comparable.against l.test) (take l.id l.dict)
