use Rattle.std.proofs.Common.{◌≡◌, drop}
use Rattle.rt_grammar.specs.Run.{nothing, run}
use Rattle.rt_grammar.proofs.reader.read.Given as goal

-- what is left leads from here to where all tokens lead
abbrev pub invariant-loop-token : goal.invariant-loop-token
invariant-loop-token l = run l.schema l.size l.state (drop l.token-index l.tokens) ≡ run l.schema l.size nothing l.tokens
