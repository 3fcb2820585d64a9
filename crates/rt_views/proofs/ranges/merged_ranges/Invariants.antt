use Rattle.std.proofs.Common.{◌≡◌, [], map, drop}
use Rattle.rt_broker.specs.Merging.{pushed_all}
use Rattle.rt_model.specs.RightAnswer.{served_ranges}
use Rattle.rt_views.specs.Views.{asked_of}
use Rattle.rt_views.proofs.ranges.merged_ranges.Given as goal

abbrev pub invariant-loop-piece : goal.invariant-loop-piece
invariant-loop-piece l =
    pushed_all l.ranges (served_ranges (map asked_of (drop l.piece-index l.found))) ≡ pushed_all [] (served_ranges (map asked_of l.found))
