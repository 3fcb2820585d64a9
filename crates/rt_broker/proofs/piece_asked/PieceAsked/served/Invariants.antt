use Rattle.std.proofs.Common.{◌≡◌, drop}
use Rattle.rt_broker.specs.Asking.{served_in}
use Rattle.rt_broker.proofs.piece_asked.PieceAsked.served.Given as goal

-- those so far served nothing
abbrev pub invariant-loop-answer : goal.invariant-loop-answer
invariant-loop-answer l = served_in (drop l.answer-index l.answer-items) ≡ served_in l.self.answers
