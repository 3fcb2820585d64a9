use Rattle.std.proofs.Common.{◌≡◌, drop}
use Rattle.rt_sql.specs.Rules.{ungrouped}
use Rattle.rt_sql.proofs.rules.ungrouped.Given as goal

-- the first is among those that are left
abbrev pub invariant-loop-found : goal.invariant-loop-found
invariant-loop-found l = ungrouped l.groups (drop l.found-index l.items) ≡ ungrouped l.groups l.items
