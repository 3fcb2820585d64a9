use Rattle.std.proofs.Common.{◌≡◌, replicate}
use Rattle.rt_broker.specs.declared.route.Route.TheVariants.{Untried}
use Rattle.rt_broker.proofs.asked.Asked.make.Given as goal

-- the partitions so far weren't tried
abbrev pub invariant-loop-partition : goal.invariant-loop-partition
invariant-loop-partition l = l.routes ≡ replicate l._partition Untried
