-- The steps of a retirement, as relations over what its store means before and after.
use Rattle.std.specs.Prelude.{◌≡◌, ℕ, List, Option, Some, None, Result, Ok, Err}
use Rattle.rt_base.specs.declared.numbers.Moment.{Moment}
use Rattle.rt_base.specs.declared.numbers.Sequence.{Sequence}
use Rattle.rt_model.specs.declared.node.Key.TheVariants as key
use Rattle.rt_model.specs.declared.node.Listed.{Listed}
use Rattle.rt_model.specs.declared.node.Seen.{Seen}
use Rattle.rt_model.specs.Lawful.{Write, IsLawful}
use Rattle.rt_store.specs.declared.refused.StoreRefused.{StoreRefused}
use Rattle.rt_store.specs.declared.refused.StoreRefused.TheVariants.{NoNode, Exists, VersionChanged, Failed, Memory}
use Rattle.rt_store.specs.Calls.{Reads, Lists, Writes, WritesVersion}
use Rattle.rt_store.specs.Meaning.{Meaning}
use Rattle.rt_repair.specs.declared.read_node.ReadNode.{ReadNode}
use Rattle.rt_repair.specs.declared.retirement.RetireStage.{RetireStage}
use Rattle.rt_repair.specs.declared.retirement.RetireStage.TheVariants.{Listing, Reading, Writing, Ended}
use Rattle.rt_repair.specs.declared.retiring.RetireStep.{RetireStep}
use Rattle.rt_repair.specs.declared.retiring.RetireStep.TheVariants as step
use Rattle.rt_repair.specs.declared.retiring.Retiring.{Retiring}
use Rattle.rt_repair.specs.declared.retiring.Retiring.TheVariants as retiring
use Rattle.rt_repair.specs.ReadNode.{lowest_node}
use Rattle.rt_repair.specs.RepairSteps.{RanOut, MaySet}
use Rattle.rt_repair.specs.Retirement.{Retirement, goes, retiring_at, remove_write, delete_write}

-- the retirement after a step, and what the step did
pub record Stepped : Type 0 where
  pub retire : Retirement
  pub step : RetireStep

-- a call that the store refused ends the retirement, unless memory ran out
abbrev pub fails : Retirement → StoreRefused → Option Stepped
fails r NoNode = Some (record { retire = goes r Ended; step = step.Failed })
fails r (Exists found) = Some (record { retire = goes r Ended; step = step.Failed })
fails r (VersionChanged expected found) = Some (record { retire = goes r Ended; step = step.Failed })
fails r Failed = Some (record { retire = goes r Ended; step = step.Failed })
fails r Memory = None

-- what is kept of the list
abbrev pub after_list : Retirement → Result (List Listed) StoreRefused → Option Stepped
after_list r (Ok nodes) =
    Some (record { retire = goes r (Reading (lowest_node r.partition nodes)); step = step.Listed })
after_list r (Err refused) = fails r refused

abbrev pub with_ideal : RetireStage → Seen → RetireStage
with_ideal Listing ideal = Ended
with_ideal (Reading lowest) ideal = Writing lowest ideal
with_ideal (Writing lowest read) ideal = Ended
with_ideal Ended ideal = Ended

-- the ideal state beside it
abbrev pub after_read : Retirement → Result Seen StoreRefused → Option Stepped
after_read r (Ok ideal) = Some (record { retire = goes r (with_ideal r.stage ideal); step = step.IdealRead })
after_read r (Err refused) = fails r refused

-- what the answer to the set of the ideal state tells
abbrev pub removed : Sequence → Result ℕ StoreRefused → Option RetireStep
removed s (Ok version) = Some (step.Removed s version)
removed s (Err NoNode) = Some step.Failed
removed s (Err (Exists found)) = Some step.Failed
removed s (Err (VersionChanged expected found)) = Some (step.Changed expected found)
removed s (Err Failed) = Some step.Failed
removed s (Err Memory) = None

-- what the answer to the deletion tells
abbrev pub deleted : Sequence → Result (Unit {0}) StoreRefused → Option RetireStep
deleted s (Ok done) = Some (step.Deleted s)
deleted s (Err NoNode) = Some (step.Gone s)
deleted s (Err (Exists found)) = Some step.Failed
deleted s (Err (VersionChanged expected found)) = Some (step.Changed expected found)
deleted s (Err Failed) = Some step.Failed
deleted s (Err Memory) = None

-- ---- one write at most

abbrev pub Removes : Meaning → Meaning → Retirement → Sequence → Seen → RetireStep → Type 0
Removes old new r s ideal did =
    (answer : Result ℕ StoreRefused) × WritesVersion old new (remove_write r s ideal) answer × (removed s answer ≡ Some did)

abbrev pub Deletes : Meaning → Meaning → Sequence → Option Write → RetireStep → Type 0
Deletes old new s None did = (new ≡ old) × (did ≡ step.Nothing)
Deletes old new s (Some call) did =
    (answer : Result (Unit {0}) StoreRefused) × Writes old new call answer × (deleted s answer ≡ Some did)

-- what is decided is carried out
abbrev pub Does : Meaning → Meaning → Retirement → Option ReadNode → Seen → RetireStep → Retiring → Type 0
Does old new r lowest ideal did retiring.Nothing = (new ≡ old) × (did ≡ step.Nothing)
Does old new r lowest ideal did (retiring.Remove s) = Removes old new r s ideal did
Does old new r lowest ideal did (retiring.Delete s) = Deletes old new s (delete_write lowest) did

-- ---- a step

-- the step at a stage: with some answer that the store's call could give
abbrev pub StepsAt : Meaning → Meaning → Retirement → Moment → Stepped → RetireStage → Type 0
StepsAt old new r now x Listing =
    (answer : Result (List Listed) StoreRefused) × Lists old new r.partition answer × (after_list r answer ≡ Some x)
StepsAt old new r now x (Reading lowest) =
    (answer : Result Seen StoreRefused) × Reads old new key.Ideal answer × (after_read r answer ≡ Some x)
StepsAt old new r now x (Writing lowest ideal) =
    (x.retire ≡ goes r Ended) × Does old new r lowest ideal x.step (retiring_at r now lowest ideal)
StepsAt old new r now x Ended = ⊥

abbrev pub Steps : {E : Type 0} → Meaning → Meaning → Retirement → Moment → Retirement → Result RetireStep E → Type 0
Steps old new r now after (Ok did) = StepsAt old new r now (record { retire = after; step = did }) r.stage
Steps old new r now after (Err e) = (after ≡ r) × RanOut old new

-- ---- parts of it

abbrev pub Gives : {E : Type 0} → Retirement → Option Stepped → Retirement → Result RetireStep E → Type 0
Gives old given new (Ok did) = given ≡ Some (record { retire = new; step = did })
Gives old given new (Err e) = (given ≡ None) × (new ≡ old)

abbrev pub Tells : {E : Type 0} → Option RetireStep → Result RetireStep E → Type 0
Tells told (Ok did) = told ≡ Some did
Tells told (Err e) = told ≡ None

abbrev pub Written : {E : Type 0} → Meaning → Meaning → (RetireStep → Type 0) → Result RetireStep E → Type 0
Written old new P (Ok did) = P did
Written old new P (Err e) = RanOut old new

-- ---- the write is lawful over what was seen

abbrev pub MayDo : List Seen → Retirement → Option ReadNode → Seen → Retiring → Type 0
MayDo seen r lowest ideal retiring.Nothing = Unit {0}
MayDo seen r lowest ideal (retiring.Remove s) = IsLawful seen (remove_write r s ideal)
MayDo seen r lowest ideal (retiring.Delete s) = MaySet seen (delete_write lowest)

abbrev pub MayWriteAt : List Seen → Retirement → Moment → RetireStage → Type 0
MayWriteAt seen r now Listing = Unit {0}
MayWriteAt seen r now (Reading lowest) = Unit {0}
MayWriteAt seen r now (Writing lowest ideal) = MayDo seen r lowest ideal (retiring_at r now lowest ideal)
MayWriteAt seen r now Ended = Unit {0}
