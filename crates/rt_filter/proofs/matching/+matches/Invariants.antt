use Rattle.std.proofs.Common.{◌≡◌, drop}
use Rattle.rt_model.specs.Match.{matches_all, matches_any}
use Rattle.rt_model.specs.Tree.{trees}
use Rattle.rt_filter.proofs.matching.+matches.Given as goal

abbrev pub decreases-matches : goal.decreases-matches
decreases-matches l = goal.size-matches l

-- the row meets every part before this place
abbrev pub invariant-loop-part : goal.invariant-loop-part
invariant-loop-part l =
    matches_all (trees (drop l.part-index l.part-items)) l.row ≡ matches_all (trees l.part-items) l.row

-- the row meets no part before this place
abbrev pub invariant-loop-part-2 : goal.invariant-loop-part-2
invariant-loop-part-2 l =
    matches_any (trees (drop l.part-index l.part-items)) l.row ≡ matches_any (trees l.part-items) l.row
