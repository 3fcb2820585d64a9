use Rattle.std.proofs.Common.{◌≡◌, ℕ, List, [], take, drop}
use Rattle.rt_schema.proofs.Names.{has_key}
use Rattle.rt_sql.specs.Rules.{is_grouped, repeated}
use Rattle.rt_sql.proofs.rules.repeated.Given as goal

-- the names that came are in the set, and the first that came before is among those that are left
abbrev pub invariant-loop-group : goal.invariant-loop-group
invariant-loop-group l = record {
  came : (q : List ℕ) → has_key l.names.keys q ≡ is_grouped q (take l.group-index l.groups);
  first : repeated (take l.group-index l.groups) (drop l.group-index l.groups) ≡ repeated [] l.groups;
}
