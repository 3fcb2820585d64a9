use Rattle.std.proofs.Common.{◌≡◌, ◌++◌, map, drop}
use Rattle.rt_model.specs.RightAnswer.{unserved}
use Rattle.rt_views.specs.Views.{asked_of}
use Rattle.rt_views.proofs.naming.add_missing.Given as goal

abbrev pub invariant-loop-piece : goal.invariant-loop-piece
invariant-loop-piece l =
    l.missing ++ unserved l.fn.partition (map asked_of (drop l.piece-index l.found)) ≡ l.initial.missing ++ unserved l.fn.partition (map asked_of l.found)
