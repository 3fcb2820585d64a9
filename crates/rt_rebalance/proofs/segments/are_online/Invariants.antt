use Rattle.std.proofs.Common.{◌≡◌, drop}
use Rattle.rt_rebalance.specs.Segments.{are_online}
use Rattle.rt_rebalance.proofs.segments.are_online.Given as goal

abbrev pub invariant-loop-entry : goal.invariant-loop-entry
invariant-loop-entry l = are_online (drop l.entry-index l.segment) ≡ are_online l.segment
