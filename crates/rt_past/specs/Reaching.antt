-- How far the entries of the ideal state reach.
use Rattle.std.specs.Prelude.{◌≡◌, ◌⊎◌, ◌+◌, ℕ, List, Some}
use Rattle.rt_base.specs.declared.numbers.Partition.{Partition}
use Rattle.rt_model.specs.declared.node.Seen.{Seen}
use Rattle.rt_model.specs.Entries.{HasEntry, entries_of}
use Rattle.rt_model.specs.History.{last_write}
use Rattle.rt_model.specs.Metadata.{IsOpen, node_key, sequences_of}

-- the segment is in progress
abbrev pub IsOpenNow : List Seen → Partition → ℕ → Type 0
IsOpenNow h p s = (w : Seen) × (last_write h (node_key p s) ≡ Some w) × IsOpen w.node

-- the partition's last segment has an entry, or the one before it has one while the last is in progress
pub record ReachesLast (h : List Seen) (p : Partition) : Type 0 where
  pub at : ℕ
  pub entered : HasEntry (entries_of h) p at
  pub last : (at + 1 ≡ sequences_of h p) ⊎ ((at + 2 ≡ sequences_of h p) × IsOpenNow h p (at + 1))
