use Rattle.std.proofs.Common.{◌≡◌, drop}
use Rattle.rt_broker.specs.Asking.{was_asked}
use Rattle.rt_broker.proofs.piece_asked.PieceAsked.was_asked.Given as goal

-- those so far are other servers
abbrev pub invariant-loop-answer : goal.invariant-loop-answer
invariant-loop-answer l = was_asked (drop l.answer-index l.answer-items) l.from ≡ was_asked l.self.answers l.from
