use Rattle.std.proofs.Common.{◌≡◌, drop}
use Rattle.rt_live.specs.Drained.{all_drained}
use Rattle.rt_live.proofs.drained.all_drained.Given as goal

-- what is left says it of all
abbrev pub invariant-loop-queues : goal.invariant-loop-queues
invariant-loop-queues l = all_drained (drop l.queues-index l.senders) ≡ all_drained l.senders
