use Rattle.std.proofs.Common.{◌≡◌, ◌++◌, map, drop}
use Rattle.rt_model.specs.RightAnswer.{missing_of}
use Rattle.rt_views.specs.Views.{routed_of}
use Rattle.rt_views.proofs.naming.missing_of.Given as goal

abbrev pub invariant-loop-view : goal.invariant-loop-view
invariant-loop-view l = l.missing ++ missing_of (map routed_of (drop l.view-index l.views)) ≡ missing_of (map routed_of l.views)
