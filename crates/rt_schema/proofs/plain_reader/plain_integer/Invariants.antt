use Rattle.std.proofs.Common.{◌≡◌, decimal, take}
use Rattle.rt_schema.proofs.plain_reader.plain_integer.Given as goal

-- the digits so far are the number's
abbrev pub invariant-loop-at : goal.invariant-loop-at
invariant-loop-at l = take l.at l.text ≡ decimal l.number
