use Rattle.std.proofs.Common.{◌≡◌, drop}
use Rattle.rt_broker.specs.Asking.{place_from}
use Rattle.rt_broker.proofs.plan.Plan.place.Given as goal

-- those so far are of other segments
abbrev pub invariant-loop-place : goal.invariant-loop-place
invariant-loop-place l = place_from l.place l.sequence (drop l.place l.asked) ≡ place_from 0 l.sequence l.asked
