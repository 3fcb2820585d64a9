use Rattle.std.proofs.Common.{◌≡◌, ◌++◌, drop}
use Rattle.rt_model.specs.Plan.{plan_of}
use Rattle.rt_broker.proofs.plan.planned.Given as goal

-- the pieces of the nodes so far, then those of the rest, are the plan
abbrev pub invariant-loop-node : goal.invariant-loop-node
invariant-loop-node l = l.pieces ++ plan_of l.partition (drop l.node-index l.nodes) ≡ plan_of l.partition l.nodes
