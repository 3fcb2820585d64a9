use Rattle.std.proofs.Common.{◌≡◌, map, take}
use Rattle.rt_broker.specs.Asking.{unasked}
use Rattle.rt_broker.proofs.plan.none_asked.Given as goal

abbrev pub invariant-loop-piece : goal.invariant-loop-piece
invariant-loop-piece l = l.asked ≡ map unasked (take l.piece-index l.pieces)
