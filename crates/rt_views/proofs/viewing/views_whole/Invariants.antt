use Rattle.std.proofs.Common.{◌≡◌, map}
use Rattle.std.specs.List.{range_with_len}
use Rattle.rt_views.specs.Views.{view_whole}
use Rattle.rt_views.proofs.viewing.views_whole.Given as goal

abbrev pub invariant-loop-number : goal.invariant-loop-number
invariant-loop-number l = l.views ≡ map (view_whole l.world.state) (range_with_len 0 l.number)
