use Rattle.std.proofs.Common.{◌≡◌, drop}
use Rattle.rt_sql.specs.Checks.{are_known}
use Rattle.rt_sql.specs.declared.before.Before.TheVariants.{Other}
use Rattle.rt_sql.proofs.before.are_known.Given as goal

-- all names are known exactly where those that are left are
abbrev pub invariant-loop-token : goal.invariant-loop-token
invariant-loop-token l = are_known l.schema l.before (drop l.token-index l.tokens) ≡ are_known l.schema Other l.tokens
