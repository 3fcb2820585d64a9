-- Repairs of one partition that run alone, without faults: what is decided takes effect, and nothing else does.
use Rattle.std.specs.Prelude.{◌≡◌, ℕ, zero, suc, ◌+◌, ◌<◌, ◌≤◌, ◌⊎◌, Bool, true, false, List, [], ◌∷◌, ◌++◌, length, Some}
use Rattle.rt_base.specs.declared.numbers.Moment.{Moment}
use Rattle.rt_base.specs.declared.numbers.Offset.{Offset}
use Rattle.rt_base.specs.declared.numbers.Partition.{Partition}
use Rattle.rt_base.specs.declared.numbers.Sequence.{Sequence}
use Rattle.rt_model.specs.declared.decision.Decision.{Decision}
use Rattle.rt_model.specs.declared.decision.Decision.TheVariants.{Nothing, Create, AddToIdeal, Abandon}
use Rattle.rt_model.specs.declared.ideal_state.IdealEntry.{IdealEntry}
use Rattle.rt_model.specs.declared.node.Listed.{Listed}
use Rattle.rt_model.specs.declared.node.Seen.{Seen}
use Rattle.rt_model.specs.Entries.{entries_of}
use Rattle.rt_model.specs.Ideal.{has_entry, goes_on}
use Rattle.rt_model.specs.Metadata.{metadata_of, IsInProgress}
use Rattle.rt_model.specs.Moments.{later}
use Rattle.rt_model.specs.Repair.{decide, last_listed, are_offline}
use Rattle.rt_meta.specs.Lives.{first_of, abandoned_of}
use Rattle.rt_repair.specs.ReadNode.{last_follows}
use Rattle.rt_repair.specs.Repairing.{Repairing, added_entries}

-- what stands of the partition: its metadata list, and the entries of the ideal state
pub record Standing : Type 0 where
  pub nodes : List Listed
  pub entries : List IdealEntry

abbrev pub created_node : Repairing → Moment → Sequence → Offset → Listed
created_node r now s start =
    record { sequence = s; seen = record { version = 0; meta = first_of r.table r.partition s start now } }

abbrev pub abandoned_node : Moment → Listed → Listed
abandoned_node now l =
    record { sequence = l.sequence; seen = record { version = l.seen.version + 1; meta = abandoned_of l.seen.meta now } }

-- the list with its last node given up
abbrev pub abandoned_last : Moment → List Listed → List Listed
abandoned_last now [] = []
abandoned_last now (l ∷ []) = abandoned_node now l ∷ []
abandoned_last now (l ∷ m ∷ ls) = l ∷ abandoned_last now (m ∷ ls)

abbrev pub repaired_by : Repairing → Moment → Standing → Decision → Standing
repaired_by r now x Nothing = x
repaired_by r now x (Create s start) = record x { nodes = x.nodes ++ created_node r now s start ∷ [] }
repaired_by r now x (AddToIdeal s) = record x { entries = added_entries r s (last_follows x.nodes) x.entries }
repaired_by r now x (Abandon s) = record x { nodes = abandoned_last now x.nodes }

abbrev pub decided : Repairing → Moment → Standing → Decision
decided r now x = decide x.nodes r.partition x.entries now r.grace

-- what stands after a repair
abbrev pub repaired : Repairing → Moment → Standing → Standing
repaired r now x = repaired_by r now x (decided r now x)

-- whether a repair that decides this writes: entries are added only where the partition goes on with the segment
abbrev pub writes : Repairing → Standing → Decision → Bool
writes r x Nothing = false
writes r x (Create s start) = true
writes r x (AddToIdeal s) = goes_on x.entries r.partition s.0
writes r x (Abandon s) = true

-- the grace of the last segment is over
abbrev pub IsOver : Repairing → Moment → Listed → Type 0
IsOver r now l = (later l.seen.meta.written r.grace).0 ≤ now.0

-- nothing is decided any more: the last segment consumes, and one of its entries isn't OFFLINE
pub record IsSettled (r : Repairing) (now : Moment) (x : Standing) (l : Listed) : Type 0 where
  pub nothing : decided r now x ≡ Nothing
  pub consumes : IsInProgress l.seen.meta.status
  pub entered : has_entry x.entries r.partition l.sequence ≡ true
  pub online : are_offline x.entries r.partition l.sequence ≡ false

-- after at most so many repairs that write, each once the grace of the then last segment is over
abbrev pub SettlesIn : Repairing → ℕ → Standing → Listed → Type 0
SettlesIn r zero x l = (now : Moment) → IsOver r now l → IsSettled r now x l
SettlesIn r (suc n) x l =
    (now : Moment) → IsOver r now l
    → IsSettled r now x l
    ⊎ ((writes r x (decided r now x) ≡ true) × (m : Listed) × (last_listed (repaired r now x).nodes ≡ Some m) × SettlesIn r n (repaired r now x) m)

-- the last segment has entries, or it consumes and the entries go on with it; none is of a later segment
pub record CanSettle (r : Repairing) (x : Standing) (l : Listed) : Type 0 where
  pub last : last_listed x.nodes ≡ Some l
  pub few : l.sequence.0 < 4294967290
  pub some : 0 < length r.instances
  pub none_past : (t : ℕ) → l.sequence.0 < t → has_entry x.entries r.partition (record { 0 = t }) ≡ false
  pub stands :
      (has_entry x.entries r.partition l.sequence ≡ true)
      ⊎ (IsInProgress l.seen.meta.status × (goes_on x.entries r.partition l.sequence.0 ≡ true))

-- what a history has of a partition
abbrev pub standing_of : List Seen → Partition → Standing
standing_of h p = record { nodes = metadata_of h p; entries = entries_of h }
