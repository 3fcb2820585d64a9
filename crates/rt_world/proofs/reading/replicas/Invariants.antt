use Rattle.std.proofs.Common.{◌≡◌}
use Rattle.rt_world.specs.Reading.{seen_below}
use Rattle.rt_world.proofs.reading.replicas.Given as goal

-- those of the servers so far
abbrev pub invariant-loop-number : goal.invariant-loop-number
invariant-loop-number l = l.seen ≡ seen_below l.state l.number
