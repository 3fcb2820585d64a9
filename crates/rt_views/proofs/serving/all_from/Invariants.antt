use Rattle.std.proofs.Common.{◌≡◌, ◌++◌, option_map, drop}
use Rattle.rt_views.specs.Views.{all_from}
use Rattle.rt_views.proofs.serving.all_from.Given as goal

abbrev pub invariant-loop-piece : goal.invariant-loop-piece
invariant-loop-piece l = all_from l.world.state l.pieces l.instance ≡ option_map (λ later. l.all ++ later) (all_from l.world.state (drop l.piece-index l.pieces) l.instance)
