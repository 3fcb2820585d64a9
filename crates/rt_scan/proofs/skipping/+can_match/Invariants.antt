use Rattle.std.proofs.Common.{◌≡◌, drop}
use Rattle.rt_model.specs.Tree.{trees}
use Rattle.rt_scan.specs.Skips.{can_match_all, can_match_any}
use Rattle.rt_scan.proofs.skipping.+can_match.Given as goal

abbrev pub decreases-can_match : goal.decreases-can_match
decreases-can_match l = goal.size-can_match l

-- each part before this place can be met
abbrev pub invariant-loop-part : goal.invariant-loop-part
invariant-loop-part l =
    can_match_all l.columns (trees (drop l.part-index l.part-items)) ≡ can_match_all l.columns (trees l.part-items)

-- no part before this place can be met
abbrev pub invariant-loop-part-2 : goal.invariant-loop-part-2
invariant-loop-part-2 l =
    can_match_any l.columns (trees (drop l.part-index l.part-items)) ≡ can_match_any l.columns (trees l.part-items)
