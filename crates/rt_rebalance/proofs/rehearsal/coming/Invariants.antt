use Rattle.std.proofs.Common.{◌≡◌, not, ◌&&◌, filter, take}
use Rattle.rt_rebalance.specs.Rehearsed.{has_replica}
use Rattle.rt_rebalance.specs.Segments.{is_online}
use Rattle.rt_rebalance.proofs.rehearsal.coming.Given as goal

abbrev pub invariant-loop-entry : goal.invariant-loop-entry
invariant-loop-entry l = l.coming.items ≡ filter (λ e. is_online e.mode && not (has_replica l.old e)) (take l.entry-index l.new)
