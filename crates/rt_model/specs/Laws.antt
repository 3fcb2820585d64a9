-- The laws of a lawful history: what is true of each, over its list of writes alone.
use Rattle.std.specs.Prelude.{◌≡◌, ℕ, ◌+◌, ◌-◌, ◌<◌, ◌≤◌, ◌⊎◌, List, ◌∷◌, ◌++◌, map, length, Some}
use Rattle.std.specs.List.{range_with_len}
use Rattle.rt_base.specs.declared.numbers.Partition.{Partition}
use Rattle.rt_model.specs.declared.ideal_state.IdealState.{IdealState}
use Rattle.rt_model.specs.declared.node.Key.TheVariants as key
use Rattle.rt_model.specs.declared.node.Listed.{Listed}
use Rattle.rt_model.specs.declared.node.Node.TheVariants as node
use Rattle.rt_model.specs.declared.node.Seen.{Seen}
use Rattle.rt_lists.specs.Members.{Has}
use Rattle.rt_model.specs.History.{last_write, value_of}
use Rattle.rt_model.specs.Metadata.{node_key, life_of, listed_write, metadata_of, sequences_of, IsFinal, IsFinalStatus, Ends, IsCreated, IsDeleted}
use Rattle.rt_model.specs.Lawful.{IsLawfulHistory}
use Rattle.rt_model.specs.Order.{IsAscending, NamesOnce}
use Rattle.rt_model.specs.Starting.{Starting, starting_contents}
use Rattle.rt_model.specs.Chain.{IsLife, IsCreation, IsChainOf, deletions_of}
use Rattle.rt_model.specs.Tiled.{done_ranges_of, mark_of, offsets_of, IsTiledTo}
use Rattle.rt_model.specs.Entries.{entries_by, entries_of, IsIdealWrite, HasEntry, AreGrounded, IsUnbroken, GoesOn}

-- the history has the starting contents
abbrev pub Begins : Starting → List Seen → Type 0
Begins s h = (later : List Seen) × (h ≡ starting_contents s ++ later)

-- every partition of the setup has its chain: its lowest present segment is the one after those that were
-- deleted, and its count is one past the highest sequence that was written
abbrev pub HasChains : Starting → List Seen → Type 0
HasChains s h = (p : Partition) → p.0 < s.partitions → IsChainOf h p (deletions_of h p) (sequences_of h p)

-- every node of a partition of the setup has a life: it is created once, ends at most once, is deleted at most
-- once after that, and no other write of it comes
abbrev pub HasLives : Starting → List Seen → Type 0
HasLives s h = (p : Partition) (q : ℕ) → p.0 < s.partitions → IsLife (life_of h p q)

-- a write that ended a segment
pub record IsEnding (h : List Seen) (p : Partition) (q : ℕ) (w : Seen) : Type 0 where
  pub has : Has h w
  pub is_of : w.key ≡ node_key p q
  pub final : IsFinal w.node

-- the last write of a key is a deletion
abbrev pub IsGoneLast : List Seen → Partition → ℕ → Type 0
IsGoneLast h p q = (g : Seen) × (last_write h (node_key p q) ≡ Some g) × (g.node ≡ node.Gone)

-- a Done or Abandoned node never changes but by its deletion
pub record EndsOnce (h : List Seen) (p : Partition) (q : ℕ) : Type 0 where
  -- it ended once
  pub once : (v w : Seen) → IsEnding h p q v → IsEnding h p q w → v ≡ w
  -- with the name and the start of its creation
  pub keeps : (c w : Seen) → IsCreation h p q c → IsEnding h p q w → Ends c.node w.node
  -- what was written then stands, until it is deleted
  pub stays :
      (w : Seen) → IsEnding h p q w
      → (last_write h (node_key p q) ≡ Some w) ⊎ IsGoneLast h p q

abbrev pub HasEndings : Starting → List Seen → Type 0
HasEndings s h = (p : Partition) (q : ℕ) → p.0 < s.partitions → EndsOnce h p q

-- deletions go from the lowest segment up, and one that was created stands above each
pub record DeletesUpwards (h : List Seen) (p : Partition) (q : ℕ) : Type 0 where
  pub below : (r : ℕ) → r < q → IsDeleted h p r
  pub above : IsCreated h p (q + 1)
  pub not_last : q + 1 < sequences_of h p

abbrev pub HasDeletions : Starting → List Seen → Type 0
HasDeletions s h =
    (p : Partition) (q : ℕ) → p.0 < s.partitions → IsDeleted h p q → DeletesUpwards h p q

-- the ranges of every partition tile the offsets from 0 up to some end, and each offset below it is in one of
-- them, in order
abbrev pub HasTiles : Starting → List Seen → Type 0
HasTiles s h =
    (p : Partition) → p.0 < s.partitions
    → (end : ℕ) × IsTiledTo h p end × (offsets_of (done_ranges_of h p) ≡ range_with_len 0 end)

-- the mark of a partition does not fall from one history to another that goes on
abbrev pub MarksRise : Starting → List Seen → List Seen → Type 0
MarksRise s h more = (p : Partition) → p.0 < s.partitions → mark_of h p ≤ mark_of (h ++ more) p

-- the ideal state is always there
abbrev pub HasIdealState : List Seen → Type 0
HasIdealState h = (w : Seen) × (i : IdealState) × (value_of h key.Ideal ≡ Some w) × (w.node ≡ node.Ideal i)

-- each entry of each ideal state has its node created, and done if it is ONLINE
abbrev pub HasGroundedEntries : List Seen → Type 0
HasGroundedEntries h = (w : Seen) → IsIdealWrite h w → AreGrounded h (entries_by w.node)

-- the entries of a partition, in each ideal state, cover an unbroken run of sequences
abbrev pub HasUnbrokenRuns : List Seen → Type 0
HasUnbrokenRuns h = (w : Seen) (p : Partition) → IsIdealWrite h w → IsUnbroken (entries_by w.node) p

-- since each ideal state the lowest sequence of a partition has not fallen, the highest has not either, and a
-- partition that had an entry has one
abbrev pub HasRisingRuns : List Seen → Type 0
HasRisingRuns h = (w : Seen) (p : Partition) → IsIdealWrite h w → GoesOn (entries_by w.node) (entries_of h) p

-- the entries have passed each segment that was deleted
abbrev pub HasPassedDeletions : List Seen → Type 0
HasPassedDeletions h = (p : Partition) (q r : ℕ) → IsDeleted h p q → HasEntry (entries_of h) p r → q < r

-- the entries of each ideal state ascend, and name no instance twice in a segment
abbrev pub HasOrderedEntries : List Seen → Type 0
HasOrderedEntries h =
    (w : Seen) → IsIdealWrite h w → IsAscending (entries_by w.node) × NamesOnce (entries_by w.node)

-- each ideal state has an entry of each partition of the setup
abbrev pub HasEveryPartition : Starting → List Seen → Type 0
HasEveryPartition s h =
    (w : Seen) (p : Partition) → IsIdealWrite h w → p.0 < s.partitions
    → (q : ℕ) × HasEntry (entries_by w.node) p q

-- what is listed of a partition
pub record IsListing (h : List Seen) (p : Partition) : Type 0 where
  -- one run of sequences, from the lowest that isn't deleted to the last that was created
  pub run :
      map (λ l. l.sequence.0) (metadata_of h p)
      ≡ range_with_len (deletions_of h p) (sequences_of h p - deletions_of h p)
  -- the value of each key
  pub values :
      (l : Listed) → Has (metadata_of h p) l
      → value_of h (node_key p l.sequence.0) ≡ Some (listed_write p l)
  -- all below are deleted
  pub below : (q : ℕ) → q < deletions_of h p → IsDeleted h p q

abbrev pub HasListings : Starting → List Seen → Type 0
HasListings s h = (p : Partition) → p.0 < s.partitions → IsListing h p

-- what a retirement has read of a partition: its metadata list at some front of the history, of which the first
-- segment has ended and isn't the last, and the ideal state at a front no shorter
pub record HasRead (s : Starting) (h more : List Seen) (p : Partition) (first : Listed) (rest : List Listed) (state : IdealState) : Type 0 where
  pub begins : Begins s h
  pub lawful : IsLawfulHistory s (h ++ more)
  pub within : p.0 < s.partitions
  pub listed : metadata_of h p ≡ first ∷ rest
  pub followed : 0 < length rest
  pub ended : IsFinalStatus first.seen.meta.status
  pub read : (w : Seen) × (value_of (h ++ more) key.Ideal ≡ Some w) × (w.node ≡ node.Ideal state)
