use Rattle.std.proofs.Common.{◌≡◌, drop}
use Rattle.rt_live.specs.Drained.{are_drained}
use Rattle.rt_live.proofs.drained.are_drained.Given as goal

-- what is left says it of all
abbrev pub invariant-loop-queue : goal.invariant-loop-queue
invariant-loop-queue l = are_drained (drop l.queue-index l.queues) ≡ are_drained l.queues
