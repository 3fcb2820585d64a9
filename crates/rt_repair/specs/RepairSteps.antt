-- The steps of a repair, as relations over what its store means before and after.
use Rattle.std.specs.Prelude.{◌≡◌, ℕ, ◌⊎◌, Bool, List, Option, Some, None, Result, Ok, Err}
use Rattle.rt_base.specs.declared.numbers.Moment.{Moment}
use Rattle.rt_base.specs.declared.numbers.Offset.{Offset}
use Rattle.rt_base.specs.declared.numbers.Sequence.{Sequence}
use Rattle.rt_model.specs.declared.decision.Decision.{Decision}
use Rattle.rt_model.specs.declared.decision.Decision.TheVariants as decision
use Rattle.rt_model.specs.declared.node.Key.TheVariants as key
use Rattle.rt_model.specs.declared.node.Listed.{Listed}
use Rattle.rt_model.specs.declared.node.Seen.{Seen}
use Rattle.rt_model.specs.Lawful.{Write, IsLawful}
use Rattle.rt_store.specs.declared.refused.StoreRefused.{StoreRefused}
use Rattle.rt_store.specs.declared.refused.StoreRefused.TheVariants.{NoNode, Exists, VersionChanged, Failed, Memory}
use Rattle.rt_store.specs.Calls.{Reads, Lists, Writes, WritesVersion, Sees, Stays}
use Rattle.rt_store.specs.Meaning.{Meaning}
use Rattle.rt_repair.specs.declared.read_node.ReadNode.{ReadNode}
use Rattle.rt_repair.specs.declared.repair.RepairStage.{RepairStage}
use Rattle.rt_repair.specs.declared.repair.RepairStage.TheVariants.{Listing, Reading, Writing, Ended}
use Rattle.rt_repair.specs.declared.repair_step.RepairStep.{RepairStep}
use Rattle.rt_repair.specs.declared.repair_step.RepairStep.TheVariants as step
use Rattle.rt_repair.specs.ReadNode.{last_node, last_follows}
use Rattle.rt_repair.specs.Repairing.{Repairing, goes, decision_at, create_write, abandon_write, ideal_write}

-- the repair after a step, and what the step did
pub record Stepped : Type 0 where
  pub repair : Repairing
  pub step : RepairStep

-- a call that the store refused ends the repair, unless memory ran out
abbrev pub fails : Repairing → StoreRefused → Option Stepped
fails r NoNode = Some (record { repair = goes r Ended; step = step.Failed })
fails r (Exists found) = Some (record { repair = goes r Ended; step = step.Failed })
fails r (VersionChanged expected found) = Some (record { repair = goes r Ended; step = step.Failed })
fails r Failed = Some (record { repair = goes r Ended; step = step.Failed })
fails r Memory = None

-- what is kept of the list
abbrev pub after_list : Repairing → Result (List Listed) StoreRefused → Option Stepped
after_list r (Ok nodes) =
    Some (record { repair = goes r (Reading (last_node r.partition nodes) (last_follows nodes)); step = step.Listed })
after_list r (Err refused) = fails r refused

abbrev pub with_ideal : RepairStage → Seen → RepairStage
with_ideal Listing ideal = Ended
with_ideal (Reading last follows) ideal = Writing last follows ideal
with_ideal (Writing last follows read) ideal = Ended
with_ideal Ended ideal = Ended

-- the ideal state beside it
abbrev pub after_read : Repairing → Result Seen StoreRefused → Option Stepped
after_read r (Ok ideal) = Some (record { repair = goes r (with_ideal r.stage ideal); step = step.IdealRead })
after_read r (Err refused) = fails r refused

abbrev pub gone_by : Option ReadNode → RepairStep
gone_by None = step.Failed
gone_by (Some last) = step.Gone last.sequence

-- what the answer to a creation tells
abbrev pub created : Sequence → Option ReadNode → Result (Unit {0}) StoreRefused → Option RepairStep
created s last (Ok done) = Some (step.Created s)
created s last (Err NoNode) = Some (gone_by last)
created s last (Err (Exists found)) = Some (step.Exists s)
created s last (Err (VersionChanged expected found)) = Some (step.Changed expected found)
created s last (Err Failed) = Some step.Failed
created s last (Err Memory) = None

-- what the answer to the giving up of a segment tells
abbrev pub abandoned : Sequence → Result ℕ StoreRefused → Option RepairStep
abandoned s (Ok version) = Some (step.Abandoned s)
abandoned s (Err NoNode) = Some (step.Gone s)
abandoned s (Err (Exists found)) = Some step.Failed
abandoned s (Err (VersionChanged expected found)) = Some (step.Changed expected found)
abandoned s (Err Failed) = Some step.Failed
abandoned s (Err Memory) = None

-- what the answer to the set of the ideal state tells
abbrev pub ideal_set : Result ℕ StoreRefused → Option RepairStep
ideal_set (Ok version) = Some (step.IdealSet version)
ideal_set (Err NoNode) = Some step.Failed
ideal_set (Err (Exists found)) = Some step.Failed
ideal_set (Err (VersionChanged expected found)) = Some (step.Changed expected found)
ideal_set (Err Failed) = Some step.Failed
ideal_set (Err Memory) = None

-- ---- one write at most

abbrev pub Creates : Meaning → Meaning → Repairing → Moment → Sequence → Offset → Option ReadNode → RepairStep → Type 0
Creates old new r now s start last did =
    (answer : Result (Unit {0}) StoreRefused)
    × Writes old new (create_write r now s start last) answer × (created s last answer ≡ Some did)

abbrev pub Sets : Meaning → Meaning → (Result ℕ StoreRefused → Option RepairStep) → Option Write → RepairStep → Type 0
Sets old new tell None did = (new ≡ old) × (did ≡ step.Nothing)
Sets old new tell (Some call) did =
    (answer : Result ℕ StoreRefused) × WritesVersion old new call answer × (tell answer ≡ Some did)

-- what is decided is carried out
abbrev pub Does : Meaning → Meaning → Repairing → Moment → Option ReadNode → Bool → Seen → RepairStep → Decision → Type 0
Does old new r now last follows ideal did decision.Nothing = (new ≡ old) × (did ≡ step.Nothing)
Does old new r now last follows ideal did (decision.Create s start) = Creates old new r now s start last did
Does old new r now last follows ideal did (decision.AddToIdeal s) =
    Sets old new ideal_set (ideal_write r s follows ideal) did
Does old new r now last follows ideal did (decision.Abandon s) = Sets old new (abandoned s) (abandon_write now last) did

-- ---- a step

-- the step at a stage: with some answer that the store's call could give
abbrev pub StepsAt : Meaning → Meaning → Repairing → Moment → Stepped → RepairStage → Type 0
StepsAt old new r now x Listing =
    (answer : Result (List Listed) StoreRefused) × Lists old new r.partition answer × (after_list r answer ≡ Some x)
StepsAt old new r now x (Reading last follows) =
    (answer : Result Seen StoreRefused) × Reads old new key.Ideal answer × (after_read r answer ≡ Some x)
StepsAt old new r now x (Writing last follows ideal) =
    (x.repair ≡ goes r Ended) × Does old new r now last follows ideal x.step (decision_at r now last ideal)
StepsAt old new r now x Ended = ⊥

-- memory ran out, before the store was called or in its call: nothing was written
abbrev pub RanOut : Meaning → Meaning → Type 0
RanOut old new = (new ≡ old) ⊎ ((base : List Seen) × Sees old base × Stays old new base)

abbrev pub Steps : {E : Type 0} → Meaning → Meaning → Repairing → Moment → Repairing → Result RepairStep E → Type 0
Steps old new r now after (Ok did) = StepsAt old new r now (record { repair = after; step = did }) r.stage
Steps old new r now after (Err e) = (after ≡ r) × RanOut old new

-- ---- parts of it

abbrev pub Gives : {E : Type 0} → Repairing → Option Stepped → Repairing → Result RepairStep E → Type 0
Gives old given new (Ok did) = given ≡ Some (record { repair = new; step = did })
Gives old given new (Err e) = (given ≡ None) × (new ≡ old)

abbrev pub Tells : {E : Type 0} → Option RepairStep → Result RepairStep E → Type 0
Tells told (Ok did) = told ≡ Some did
Tells told (Err e) = told ≡ None

abbrev pub Written : {E : Type 0} → Meaning → Meaning → (RepairStep → Type 0) → Result RepairStep E → Type 0
Written old new P (Ok did) = P did
Written old new P (Err e) = RanOut old new

-- ---- the write is lawful over what was seen

abbrev pub MaySet : List Seen → Option Write → Type 0
MaySet seen None = Unit {0}
MaySet seen (Some call) = IsLawful seen call

abbrev pub MayDo : List Seen → Repairing → Moment → Option ReadNode → Bool → Seen → Decision → Type 0
MayDo seen r now last follows ideal decision.Nothing = Unit {0}
MayDo seen r now last follows ideal (decision.Create s start) = IsLawful seen (create_write r now s start last)
MayDo seen r now last follows ideal (decision.AddToIdeal s) = MaySet seen (ideal_write r s follows ideal)
MayDo seen r now last follows ideal (decision.Abandon s) = MaySet seen (abandon_write now last)

abbrev pub MayWriteAt : List Seen → Repairing → Moment → RepairStage → Type 0
MayWriteAt seen r now Listing = Unit {0}
MayWriteAt seen r now (Reading last follows) = Unit {0}
MayWriteAt seen r now (Writing last follows ideal) = MayDo seen r now last follows ideal (decision_at r now last ideal)
MayWriteAt seen r now Ended = Unit {0}
