use Rattle.std.proofs.Common.{◌≡◌}
use Rattle.rt_nodes.specs.Fresh.{fresh_controllers}
use Rattle.rt_nodes.proofs.fresh.first_controllers.Given as goal

-- the controllers so far
abbrev pub invariant-loop-number : goal.invariant-loop-number
invariant-loop-number l = l.controllers ≡ fresh_controllers l.setup l.number
