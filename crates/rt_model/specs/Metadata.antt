-- The metadata nodes of a partition.
use Rattle.std.specs.Prelude.{◌≡◌, ℕ, zero, suc, ◌+◌, ◌<◌, max, List, [], ◌∷◌, ◌++◌, ◌==◌, if◌then◌else◌, Option, Some, None, option_to_list}
use Rattle.rt_base.specs.declared.numbers.Partition.{Partition}
use Rattle.rt_base.specs.declared.numbers.Offset.{Offset}
use Rattle.rt_model.specs.declared.node.Key.{Key}
use Rattle.rt_model.specs.declared.node.Key.TheVariants as key
use Rattle.rt_model.specs.declared.node.Node.{Node}
use Rattle.rt_model.specs.declared.node.Node.TheVariants as node
use Rattle.rt_model.specs.declared.node.Seen.{Seen}
use Rattle.rt_model.specs.declared.node.Listed.{Listed}
use Rattle.rt_model.specs.declared.status.Status.{Status}
use Rattle.rt_model.specs.declared.status.Status.TheVariants.{InProgress, Done, Abandoned}
use Rattle.rt_lists.specs.Members.{Has}
use Rattle.rt_model.specs.History.{writes_of, value_of}

-- the key of a segment's node
abbrev pub node_key : Partition → ℕ → Key
node_key p s = key.Meta p (record { 0 = s })

-- the writes of a segment's node, the earliest first
abbrev pub life_of : List Seen → Partition → ℕ → List Seen
life_of h p s = writes_of h (node_key p s)

-- one past the highest sequence of the partition that was ever written, or 0
abbrev pub past_key : Partition → Key → ℕ
past_key p (key.Meta q s) = if q.0 == p.0 then s.0 + 1 else 0
past_key p key.Ideal = 0
past_key p (key.Boot i) = 0

abbrev pub sequences_of : List Seen → Partition → ℕ
sequences_of [] p = 0
sequences_of (w ∷ ws) p = max (past_key p w.key) (sequences_of ws p)

-- a value as it is listed
abbrev pub listed_by : ℕ → ℕ → Node → Option Listed
listed_by s version (node.Meta m) =
    Some (record { sequence = record { 0 = s }; seen = record { version = version; meta = m } })
listed_by s version (node.Ideal i) = None
listed_by s version node.Boot = None
listed_by s version node.Gone = None

abbrev pub listed_in : ℕ → Option Seen → Option Listed
listed_in s None = None
listed_in s (Some w) = listed_by s w.version w.node

-- the write that a listed node of a partition is
abbrev pub listed_write : Partition → Listed → Seen
listed_write p l =
    record { key = node_key p l.sequence.0; version = l.seen.version; node = node.Meta l.seen.meta }

-- the values of the present nodes below a sequence, by sequence
abbrev pub metadata_below : List Seen → Partition → ℕ → List Listed
metadata_below h p zero = []
metadata_below h p (suc s) =
    metadata_below h p s ++ option_to_list (listed_in s (value_of h (node_key p s)))

-- the metadata list of a partition: the value of each present node, by sequence
abbrev pub metadata_of : List Seen → Partition → List Listed
metadata_of h p = metadata_below h p (sequences_of h p)

abbrev pub IsInProgress : Status → Type 0
IsInProgress InProgress = Unit {0}
IsInProgress (Done commit) = ⊥
IsInProgress Abandoned = ⊥

-- a node in progress: what creates a segment
abbrev pub IsOpen : Node → Type 0
IsOpen (node.Meta m) = IsInProgress m.status
IsOpen (node.Ideal i) = ⊥
IsOpen node.Boot = ⊥
IsOpen node.Gone = ⊥

abbrev pub IsDoneStatus : Status → Type 0
IsDoneStatus InProgress = ⊥
IsDoneStatus (Done commit) = Unit {0}
IsDoneStatus Abandoned = ⊥

abbrev pub IsDone : Node → Type 0
IsDone (node.Meta m) = IsDoneStatus m.status
IsDone (node.Ideal i) = ⊥
IsDone node.Boot = ⊥
IsDone node.Gone = ⊥

abbrev pub IsFinalStatus : Status → Type 0
IsFinalStatus InProgress = ⊥
IsFinalStatus (Done commit) = Unit {0}
IsFinalStatus Abandoned = Unit {0}

-- Done or Abandoned
abbrev pub IsFinal : Node → Type 0
IsFinal (node.Meta m) = IsFinalStatus m.status
IsFinal (node.Ideal i) = ⊥
IsFinal node.Boot = ⊥
IsFinal node.Gone = ⊥

-- a status in which a segment may end: committed past its start, or abandoned
abbrev pub IsEndFrom : Offset → Status → Type 0
IsEndFrom start InProgress = ⊥
IsEndFrom start (Done commit) = start.0 < commit.end.0
IsEndFrom start Abandoned = Unit {0}

-- a segment in progress ends, with its name and its start
abbrev pub Ends : Node → Node → Type 0
Ends (node.Meta a) (node.Meta b) =
    IsInProgress a.status × (b.name ≡ a.name) × (b.start ≡ a.start) × IsEndFrom b.start b.status
Ends _ _ = ⊥

abbrev pub StartsAfter : Status → Offset → Offset → Type 0
StartsAfter InProgress start next = ⊥
StartsAfter (Done commit) start next = next ≡ commit.end
StartsAfter Abandoned start next = next ≡ start

-- a new node follows an ended one: it starts at the end of a Done one, or where an Abandoned one started
abbrev pub Follows : Node → Node → Type 0
Follows (node.Meta a) (node.Meta b) = IsInProgress b.status × StartsAfter a.status a.start b.start
Follows _ _ = ⊥

-- some write of the segment's node, with a node of which P holds
abbrev pub HasNode : List Seen → Partition → ℕ → (Node → Type 0) → Type 0
HasNode h p s P = (w : Seen) × Has h w × (w.key ≡ node_key p s) × P w.node

abbrev pub IsCreated : List Seen → Partition → ℕ → Type 0
IsCreated h p s = HasNode h p s IsOpen

abbrev pub BecameDone : List Seen → Partition → ℕ → Type 0
BecameDone h p s = HasNode h p s IsDone

abbrev pub BecameFinal : List Seen → Partition → ℕ → Type 0
BecameFinal h p s = HasNode h p s IsFinal

abbrev pub IsDeleted : List Seen → Partition → ℕ → Type 0
IsDeleted h p s = HasNode h p s (λ n. n ≡ node.Gone)
