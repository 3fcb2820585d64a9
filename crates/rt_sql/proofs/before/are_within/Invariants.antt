use Rattle.std.proofs.Common.{◌≡◌, drop}
use Rattle.rt_sql.specs.Checks.{are_within}
use Rattle.rt_sql.specs.declared.before.Before.TheVariants.{Other}
use Rattle.rt_sql.proofs.before.are_within.Given as goal

-- all numbers are within their bounds exactly where those that are left are
abbrev pub invariant-loop-token : goal.invariant-loop-token
invariant-loop-token l = are_within l.before (drop l.token-index l.tokens) ≡ are_within Other l.tokens
