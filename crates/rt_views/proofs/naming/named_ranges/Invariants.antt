use Rattle.std.proofs.Common.{◌≡◌, ◌++◌, map, drop}
use Rattle.rt_model.specs.RightAnswer.{named_ranges}
use Rattle.rt_views.specs.Views.{routed_of}
use Rattle.rt_views.proofs.naming.named_ranges.Given as goal

abbrev pub invariant-loop-view : goal.invariant-loop-view
invariant-loop-view l = l.named ++ named_ranges (map routed_of (drop l.view-index l.views)) ≡ named_ranges (map routed_of l.views)
