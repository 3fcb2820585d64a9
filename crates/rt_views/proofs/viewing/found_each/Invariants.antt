use Rattle.std.proofs.Common.{◌≡◌, map, take}
use Rattle.rt_views.specs.Views.{found_each}
use Rattle.rt_views.proofs.viewing.found_each.Given as goal

abbrev pub invariant-loop-piece : goal.invariant-loop-piece
invariant-loop-piece l = l.found ≡ map (found_each l.world.state l.fn.partition) (take l.piece-index l.pieces)
