use Rattle.std.proofs.Common.{◌≡◌, Some, drop}
use Rattle.rt_tokens.specs.Tokens.{number_from}
use Rattle.rt_tokens.proofs.lexer.number_of.Given as goal

-- the number so far, and what the digits that are left make of it
abbrev pub invariant-loop-digit : goal.invariant-loop-digit
invariant-loop-digit l = number_from l.number (drop l.digit-index l.digits) ≡ number_from (Some 0) l.digits
