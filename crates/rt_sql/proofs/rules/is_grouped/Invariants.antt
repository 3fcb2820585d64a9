use Rattle.std.proofs.Common.{◌≡◌, drop}
use Rattle.rt_sql.specs.Rules.{is_grouped}
use Rattle.rt_sql.proofs.rules.is_grouped.Given as goal

-- the name is among all exactly where it is among those that are left
abbrev pub invariant-loop-group : goal.invariant-loop-group
invariant-loop-group l = is_grouped l.column.name (drop l.group-index l.groups) ≡ is_grouped l.column.name l.groups
