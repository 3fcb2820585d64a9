use Rattle.std.proofs.Common.{◌≡◌, map, take}
use Rattle.rt_views.specs.Views.{unfound}
use Rattle.rt_views.proofs.serving.none_found.Given as goal

abbrev pub invariant-loop-piece : goal.invariant-loop-piece
invariant-loop-piece l = l.found ≡ map unfound (take l.piece-index l.pieces)
