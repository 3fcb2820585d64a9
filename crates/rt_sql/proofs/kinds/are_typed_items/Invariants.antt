use Rattle.std.proofs.Common.{◌≡◌, drop}
use Rattle.rt_sql.specs.Kinds.{are_typed_items}
use Rattle.rt_sql.proofs.kinds.are_typed_items.Given as goal

-- all are typed exactly where those that are left are
abbrev pub invariant-loop-found : goal.invariant-loop-found
invariant-loop-found l = are_typed_items l.schema (drop l.found-index l.items) ≡ are_typed_items l.schema l.items
