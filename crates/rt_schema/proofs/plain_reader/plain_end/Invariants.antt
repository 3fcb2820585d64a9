use Rattle.std.proofs.Common.{◌≡◌, take, true}
use Rattle.rt_schema.specs.Plain.{are_plain}
use Rattle.rt_schema.proofs.plain_reader.plain_end.Given as goal

-- the bytes so far stand for themselves
abbrev pub invariant-loop-at : goal.invariant-loop-at
invariant-loop-at l = are_plain (take l.at l.text) ≡ true
