use Rattle.std.proofs.Common.{◌≡◌, drop}
use Rattle.rt_sql.specs.Rules.{stray}
use Rattle.rt_sql.proofs.rules.stray.Given as goal

-- the first is among those that are left
abbrev pub invariant-loop-found : goal.invariant-loop-found
invariant-loop-found l = stray l.items l.groups (drop l.found-index l.keys) ≡ stray l.items l.groups l.keys
