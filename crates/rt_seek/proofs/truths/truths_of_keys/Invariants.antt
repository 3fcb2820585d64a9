use Rattle.std.proofs.Common.{◌≡◌, map, take}
use Rattle.rt_seek.specs.Keys.{key_passes}
use Rattle.rt_seek.proofs.truths.truths_of_keys.Given as goal

abbrev pub invariant-loop-key : goal.invariant-loop-key
invariant-loop-key g l = l.truths.items ≡ map (key_passes g.K.Comparable.against l.test) (take l.key-index l.keys)
