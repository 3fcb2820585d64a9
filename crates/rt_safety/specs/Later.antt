-- What a later history of the store keeps of an earlier one, for a partition.
use Rattle.std.specs.Prelude.{◌≤◌, ◌⊎◌, List}
use Rattle.rt_base.specs.declared.numbers.Partition.{Partition}
use Rattle.rt_base.specs.declared.range.Range.{Range}
use Rattle.rt_lists.specs.Members.{Has}
use Rattle.rt_model.specs.declared.node.Seen.{Seen}
use Rattle.rt_model.specs.Tiled.{committed_of, mark_of}

-- its mark hasn't fallen, and each range that was committed is committed still or lies below the mark
pub record KeepsCommitted (old new : List Seen) (p : Partition) : Type 0 where
  pub mark : mark_of old p ≤ mark_of new p
  pub ranges : (r : Range) → Has (committed_of old p) r → Has (committed_of new p) r ⊎ (r.end.0 ≤ mark_of new p)
