-- What is true of the entries of the ideal state.
use Rattle.std.specs.Prelude.{◌≡◌, ℕ, ◌≤◌, List, [], Option, Some, None, IsTrue}
use Rattle.rt_base.specs.declared.numbers.Partition.{Partition}
use Rattle.rt_model.specs.declared.ideal_state.IdealEntry.{IdealEntry}
use Rattle.rt_model.specs.declared.ideal_state.Mode.TheVariants.{Online}
use Rattle.rt_model.specs.declared.node.Key.TheVariants as key
use Rattle.rt_model.specs.declared.node.Node.{Node}
use Rattle.rt_model.specs.declared.node.Node.TheVariants as node
use Rattle.rt_model.specs.declared.node.Seen.{Seen}
use Rattle.rt_model.specs.Ideal.{has_entry}
use Rattle.rt_lists.specs.Members.{Has}
use Rattle.rt_model.specs.History.{last_write}
use Rattle.rt_model.specs.Metadata.{IsCreated, BecameDone}

abbrev pub entries_by : Node → List IdealEntry
entries_by (node.Ideal i) = i.entries
entries_by (node.Meta m) = []
entries_by node.Boot = []
entries_by node.Gone = []

abbrev pub entries_in : Option Seen → List IdealEntry
entries_in None = []
entries_in (Some w) = entries_by w.node

-- the entries of the present ideal state
abbrev pub entries_of : List Seen → List IdealEntry
entries_of h = entries_in (last_write h key.Ideal)

-- a write of the ideal state
pub record IsIdealWrite (h : List Seen) (w : Seen) : Type 0 where
  pub has : Has h w
  pub is_ideal : w.key ≡ key.Ideal

-- the segment has an entry
abbrev pub HasEntry : List IdealEntry → Partition → ℕ → Type 0
HasEntry es p s = IsTrue (has_entry es p (record { 0 = s }))

-- an entry's segment was created, and became Done if the entry is ONLINE
pub record IsGrounded (h : List Seen) (e : IdealEntry) : Type 0 where
  pub created : IsCreated h e.partition e.sequence.0
  pub done : e.mode ≡ Online → BecameDone h e.partition e.sequence.0

abbrev pub AreGrounded : List Seen → List IdealEntry → Type 0
AreGrounded h es = (e : IdealEntry) → Has es e → IsGrounded h e

-- the sequences with entries have no gap
abbrev pub IsUnbroken : List IdealEntry → Partition → Type 0
IsUnbroken es p =
    (a b c : ℕ) → a ≤ b → b ≤ c → HasEntry es p a → HasEntry es p c → HasEntry es p b

-- where the old entries name a partition, the new ones do; the lowest sequence has not fallen, and the highest
-- has not either
pub record GoesOn (old new : List IdealEntry) (p : Partition) : Type 0 where
  pub lowest :
      (s t : ℕ) → HasEntry old p s → HasEntry new p t → (u : ℕ) × (u ≤ t) × HasEntry old p u
  pub highest : (s : ℕ) → HasEntry old p s → (t : ℕ) × (s ≤ t) × HasEntry new p t
