use Rattle.std.proofs.Common.{◌≡◌, ◌++◌, map, drop}
use Rattle.rt_model.specs.RightAnswer.{unserved}
use Rattle.rt_broker.specs.Answering.{asked_piece}
use Rattle.rt_broker.proofs.answering.add_unserved.Given as goal

abbrev pub invariant-loop-piece : goal.invariant-loop-piece
invariant-loop-piece l =
    l.missing ++ unserved l.partition (map asked_piece (drop l.piece-index l.asked))
    ≡ l.initial.missing ++ unserved l.partition (map asked_piece l.asked)
