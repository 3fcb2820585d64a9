-- Which writes are lawful over what their writer has seen, and what a lawful history is.
use Rattle.std.specs.Prelude.{◌≡◌, ℕ, ◌+◌, ◌<◌, List, [], ◌∷◌, ◌++◌, None, IsTrue, IsFalse}
use Rattle.rt_base.specs.declared.numbers.Partition.{Partition}
use Rattle.rt_base.specs.declared.numbers.Sequence.{Sequence}
use Rattle.rt_base.specs.declared.numbers.Instance.{Instance}
use Rattle.rt_model.specs.declared.ideal_state.IdealEntry.{IdealEntry}
use Rattle.rt_model.specs.declared.ideal_state.IdealState.{IdealState}
use Rattle.rt_model.specs.declared.node.Key.{Key}
use Rattle.rt_model.specs.declared.node.Key.TheVariants as key
use Rattle.rt_model.specs.declared.node.Node.{Node}
use Rattle.rt_model.specs.declared.node.Node.TheVariants as node
use Rattle.rt_model.specs.declared.node.Seen.{Seen}
use Rattle.rt_model.specs.Ideal.{has_entry, commit_step_of, add_consuming_of, set_offline_of, remove_segment_of}
use Rattle.rt_lists.specs.Members.{Has}
use Rattle.rt_model.specs.History.{writes_of, next_version, value_of, Stands}
use Rattle.rt_model.specs.Metadata.{IsOpen, IsFinal, Ends, Follows, IsCreated, BecameDone, BecameFinal, IsDeleted}
use Rattle.rt_model.specs.Order.{AreDistinct}
use Rattle.rt_model.specs.Starting.{Starting, starting_contents}

-- a write call, as its caller gives it
pub data Write : Type 0 where
  create : Key → Node → Write
  -- from a write that was read, at its version
  set : Seen → Node → Write
  delete : Seen → Write
  -- the prior node is to stand at the version at which it was read
  create_after : Key → Node → Seen → Write
  bump : Instance → Write

-- a segment in progress from offset 0
abbrev pub IsOpenFromZero : Node → Type 0
IsOpenFromZero (node.Meta m) = IsOpen (node.Meta m) × (m.start.0 ≡ 0)
IsOpenFromZero _ = ⊥

-- a create: of a first segment of which no write was seen, or of a boot node
abbrev pub IsLawfulCreate : List Seen → Key → Node → Type 0
IsLawfulCreate seen (key.Meta p s) n =
    (s.0 ≡ 0) × IsOpenFromZero n × (writes_of seen (key.Meta p s) ≡ [])
IsLawfulCreate seen (key.Boot i) n = n ≡ node.Boot
IsLawfulCreate seen key.Ideal n = ⊥

abbrev pub IsAfter : Key → Key → Type 0
IsAfter (key.Meta p s) (key.Meta q t) = (q ≡ p) × (t.0 ≡ s.0 + 1)
IsAfter _ _ = ⊥

-- the segment after one that was seen to end, where that one ended
abbrev pub IsLawfulCreateAfter : List Seen → Key → Node → Seen → Type 0
IsLawfulCreateAfter seen k n prior =
    Has seen prior × IsAfter prior.key k × Follows prior.node n

-- all segments of the partition below this one were seen to be deleted
abbrev pub AreDeletedBelow : List Seen → Partition → ℕ → Type 0
AreDeletedBelow seen p s = (t : ℕ) → t < s → IsDeleted seen p t

-- a step of the ideal state's entries
pub data IsIdealStep (seen : List Seen) (old new : List IdealEntry) : Type 0 where
  -- the segment was seen Done, and the next one created, which goes to distinct instances
  commits :
      (p : Partition) (s : Sequence) (next : List Instance)
      → AreDistinct next
      → BecameDone seen p s.0
      → IsCreated seen p (s.0 + 1)
      → new ≡ commit_step_of old p s next
      → IsIdealStep seen old new
  -- the segment was seen created, and goes to distinct instances
  adds :
      (p : Partition) (s : Sequence) (instances : List Instance)
      → AreDistinct instances
      → IsCreated seen p s.0
      → new ≡ add_consuming_of old p s instances
      → IsIdealStep seen old new
  turns_offline :
      (p : Partition) (s : Sequence) (i : Instance)
      → new ≡ set_offline_of old p s i
      → IsIdealStep seen old new
  -- the segment was seen to end, all below it to be deleted, and the next one has an entry
  removes :
      (p : Partition) (s : Sequence)
      → BecameFinal seen p s.0
      → AreDeletedBelow seen p s.0
      → IsTrue (has_entry old p (record { 0 = s.0 + 1 }))
      → new ≡ remove_segment_of old p s
      → IsIdealStep seen old new

abbrev pub StepsIdeal : List Seen → Node → Node → Type 0
StepsIdeal seen (node.Ideal a) (node.Ideal b) = IsIdealStep seen a.entries b.entries
StepsIdeal _ _ _ = ⊥

-- by its key, what a set may make of the node from which it starts
abbrev pub Sets : List Seen → Key → Node → Node → Type 0
Sets seen (key.Meta p s) old new = Ends old new
Sets seen key.Ideal old new = StepsIdeal seen old new
Sets seen (key.Boot i) old new = new ≡ node.Boot

-- a set from a write that was seen
abbrev pub IsLawfulSet : List Seen → Seen → Node → Type 0
IsLawfulSet seen from n = Has seen from × Sets seen from.key from.node n

-- the entries have left a segment: they have none of it, and one of a later segment of its partition
abbrev pub HasLeft : Partition → ℕ → List IdealEntry → Type 0
HasLeft p s es =
    IsFalse (has_entry es p (record { 0 = s }))
    × ((t : ℕ) × (s < t) × IsTrue (has_entry es p (record { 0 = t })))

-- an ideal state that has left the segment was seen
abbrev pub IdealHasLeft : List Seen → Partition → ℕ → Type 0
IdealHasLeft seen p s =
    (w : Seen) × (i : IdealState)
    × Has seen w × (w.key ≡ key.Ideal) × (w.node ≡ node.Ideal i) × HasLeft p s i.entries

-- what may be deleted: a segment that ended, after which one was created, below which all are deleted,
-- and which the ideal state has left
abbrev pub Retires : List Seen → Key → Node → Type 0
Retires seen (key.Meta p s) n =
    IsFinal n × IsCreated seen p (s.0 + 1) × AreDeletedBelow seen p s.0 × IdealHasLeft seen p s.0
Retires seen key.Ideal n = ⊥
Retires seen (key.Boot i) n = ⊥

-- a deletion of a write that was seen
abbrev pub IsLawfulDelete : List Seen → Seen → Type 0
IsLawfulDelete seen from = Has seen from × Retires seen from.key from.node

-- a write call is lawful over what its writer has seen
abbrev pub IsLawful : List Seen → Write → Type 0
IsLawful seen (create k n) = IsLawfulCreate seen k n
IsLawful seen (set from n) = IsLawfulSet seen from n
IsLawful seen (delete from) = IsLawfulDelete seen from
IsLawful seen (create_after k n prior) = IsLawfulCreateAfter seen k n prior
IsLawful seen (bump i) = Unit {0}

-- where the store carries a call out: a create where the key is absent; a set and a deletion where the
-- value has the version that was read; a create after a node where that node has it and the key is absent
abbrev pub TakesEffect : List Seen → Write → Type 0
TakesEffect h (create k n) = value_of h k ≡ None
TakesEffect h (set from n) = Stands h from
TakesEffect h (delete from) = Stands h from
TakesEffect h (create_after k n prior) = Stands h prior × (value_of h k ≡ None)
TakesEffect h (bump i) = Unit {0}

abbrev pub write_of : List Seen → Key → Node → Seen
write_of h k n = record { key = k; version = next_version h k; node = n }

-- what a call that is carried out writes
abbrev pub written_by : List Seen → Write → Seen
written_by h (create k n) = write_of h k n
written_by h (set from n) = write_of h from.key n
written_by h (delete from) = write_of h from.key node.Gone
written_by h (create_after k n prior) = write_of h k n
written_by h (bump i) = write_of h (key.Boot i) node.Boot

-- a write is lawful after `before`: its writer had seen the starting contents and the writes `later`, which
-- need not be all, its call was lawful over these, and it took effect on all
pub record IsLawfulStep (s : Starting) (before : List Seen) (w : Seen) : Type 0 where
  pub later : List Seen
  pub unseen : List Seen
  pub has_seen : before ≡ (starting_contents s ++ later) ++ unseen
  pub write : Write
  pub lawful : IsLawful (starting_contents s ++ later) write
  pub effect : TakesEffect before write
  pub wrote : w ≡ written_by before write

-- each write of a list is lawful after those before it
abbrev pub AreLawfulAfter : Starting → List Seen → List Seen → Type 0
AreLawfulAfter s before [] = Unit {0}
AreLawfulAfter s before (w ∷ ws) = IsLawfulStep s before w × AreLawfulAfter s (before ++ w ∷ []) ws

-- the starting contents, and then lawful writes
pub record IsLawfulHistory (s : Starting) (h : List Seen) : Type 0 where
  pub later : List Seen
  pub whole : h ≡ starting_contents s ++ later
  pub lawful : AreLawfulAfter s (starting_contents s) later
