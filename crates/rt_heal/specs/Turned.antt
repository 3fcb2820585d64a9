-- Committed segments whose entries are turned ONLINE, and which have entries.
use Rattle.std.specs.Prelude.{◌≡◌, ◌+◌, ◌<◌, ℕ, List}
use Rattle.rt_base.specs.declared.numbers.Partition.{Partition}
use Rattle.rt_lists.specs.Members.{Has}
use Rattle.rt_model.specs.Entries.{entries_of, HasEntry}
use Rattle.rt_model.specs.Metadata.{metadata_of, BecameDone, IsDoneStatus}
use Rattle.rt_model.specs.declared.ideal_state.IdealEntry.{IdealEntry}
use Rattle.rt_model.specs.declared.ideal_state.Mode.TheVariants.{Online}
use Rattle.rt_model.specs.declared.node.Listed.{Listed}
use Rattle.rt_model.specs.declared.node.Seen.{Seen}
use Rattle.rt_state.specs.declared.state.State.{State}

-- a segment of one of so many partitions was committed
abbrev pub WasCommitted : ℕ → List Seen → Partition → ℕ → Type 0
WasCommitted partitions h p q = (p.0 < partitions) × BecameDone h p q

-- the entries of a segment that was committed are ONLINE, where the next one has entries
abbrev pub AreTurned : (Partition → ℕ → Type 0) → List IdealEntry → Type 0
AreTurned IsCommitted es =
    (p : Partition) (q : ℕ) (e : IdealEntry) → HasEntry es p (q + 1) → IsCommitted p q → Has es e → e.partition ≡ p → e.sequence.0 ≡ q
    → e.mode ≡ Online

-- so it is of the present ideal state
abbrev pub IsTurned : State → Type 0
IsTurned w = AreTurned (WasCommitted w.setup.partitions w.store.writes) (entries_of w.store.writes)

-- each committed segment that is listed has entries: none is between the two steps of its retirement
abbrev pub NoneHalfRetired : List Seen → Partition → Type 0
NoneHalfRetired h p = (l : Listed) → Has (metadata_of h p) l → IsDoneStatus l.seen.meta.status → HasEntry (entries_of h) p l.sequence.0
