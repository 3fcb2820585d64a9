use Rattle.std.proofs.Common.{◌≡◌}
use Rattle.rt_nodes.specs.Fresh.{fresh_servers}
use Rattle.rt_nodes.proofs.fresh.first_servers.Given as goal

-- the servers so far
abbrev pub invariant-loop-number : goal.invariant-loop-number
invariant-loop-number l = l.servers ≡ fresh_servers l.setup l.number
