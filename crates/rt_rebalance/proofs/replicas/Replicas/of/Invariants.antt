use Rattle.std.proofs.Common.{take}
use Rattle.rt_rebalance.specs.Replicas.{AreReplicas}
use Rattle.rt_rebalance.proofs.replicas.Replicas.of.Given as goal

abbrev pub invariant-loop-entry : goal.invariant-loop-entry
invariant-loop-entry l = AreReplicas l.places.keys (take l.entry-index l.entries)
