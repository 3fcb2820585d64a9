use Rattle.std.proofs.Common.{◌≡◌}
use Rattle.rt_live_broker.proofs.begun.Begun.next.Given as goal

-- what came of the query so far isn't changed
abbrev pub invariant-loop-partition : goal.invariant-loop-partition
invariant-loop-partition l = l.self ≡ l.fn.self
