use Rattle.std.proofs.Common.{◌≡◌, drop}
use Rattle.rt_broker.specs.Asking.{are_settled}
use Rattle.rt_broker.proofs.asked.Asked.answer_due.Given as goal

-- those so far are settled
abbrev pub invariant-loop-number : goal.invariant-loop-number
invariant-loop-number l = are_settled l.self l.number (drop l.number l.routes) ≡ are_settled l.self 0 l.routes
