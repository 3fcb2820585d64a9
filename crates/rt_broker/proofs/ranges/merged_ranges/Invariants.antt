use Rattle.std.proofs.Common.{◌≡◌, [], map, drop}
use Rattle.rt_model.specs.RightAnswer.{served_ranges}
use Rattle.rt_broker.specs.Answering.{asked_piece}
use Rattle.rt_broker.specs.Merging.{pushed_all}
use Rattle.rt_broker.proofs.ranges.merged_ranges.Given as goal

-- the rest behind those so far are all
abbrev pub invariant-loop-piece : goal.invariant-loop-piece
invariant-loop-piece l =
    pushed_all l.ranges (served_ranges (map asked_piece (drop l.piece-index l.asked)))
    ≡ pushed_all [] (served_ranges (map asked_piece l.asked))
