use Rattle.std.proofs.Common.{◌≡◌, drop}
use Rattle.rt_sql.specs.Rules.{has_aggregate}
use Rattle.rt_sql.proofs.rules.has_aggregate.Given as goal

-- an aggregate is among all exactly where it is among those that are left
abbrev pub invariant-loop-found : goal.invariant-loop-found
invariant-loop-found l = has_aggregate (drop l.found-index l.items) ≡ has_aggregate l.items
