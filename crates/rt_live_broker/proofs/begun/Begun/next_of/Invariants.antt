use Rattle.std.proofs.Common.{◌≡◌}
use Rattle.rt_live_broker.proofs.begun.Begun.next_of.Given as goal

-- what came of the query so far isn't changed
abbrev pub invariant-loop-place : goal.invariant-loop-place
invariant-loop-place l = l.self ≡ l.fn.self
