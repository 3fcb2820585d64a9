use Rattle.std.proofs.Common.{◌≡◌, drop}
use Rattle.rt_model.specs.Checked.{list_fault}
use Rattle.rt_model.specs.Tree.{trees}
use Rattle.rt_filter.proofs.checking.+check.Given as goal

abbrev pub decreases-check : goal.decreases-check
decreases-check l = goal.size-check l

-- the parts before this place have no fault
abbrev pub invariant-loop-part : goal.invariant-loop-part
invariant-loop-part l =
    list_fault l.schema (trees (drop l.part-index l.part-items)) ≡ list_fault l.schema (trees l.part-items)

abbrev pub invariant-loop-part-2 : goal.invariant-loop-part-2
invariant-loop-part-2 l =
    list_fault l.schema (trees (drop l.part-index l.part-items)) ≡ list_fault l.schema (trees l.part-items)
