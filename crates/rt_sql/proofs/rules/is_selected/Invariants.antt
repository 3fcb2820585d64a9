use Rattle.std.proofs.Common.{◌≡◌, drop}
use Rattle.rt_sql.specs.Rules.{is_selected}
use Rattle.rt_sql.proofs.rules.is_selected.Given as goal

-- the item is among all exactly where it is among those that are left
abbrev pub invariant-loop-found : goal.invariant-loop-found
invariant-loop-found l = is_selected l.item (drop l.found-index l.items) ≡ is_selected l.item l.items
