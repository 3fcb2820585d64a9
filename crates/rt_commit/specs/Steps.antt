-- What a step of a job promises, by what the stores mean before it and after it.
use Rattle.std.specs.Prelude.{◌≡◌, ℕ, ◌<◌, List, Option, Some, None, Result, Ok, Err, slice_set}
use Rattle.rt_base.specs.declared.limits.TheConstants.{LAST_NUMBER}
use Rattle.rt_base.specs.declared.numbers.Moment.{Moment}
use Rattle.rt_model.specs.declared.asked.Asked.{Asked}
use Rattle.rt_model.specs.declared.node.Seen.{Seen}
use Rattle.rt_deep.specs.declared.refused.DeepRefused.{DeepRefused}
use Rattle.rt_deep.specs.declared.refused.DeepRefused.TheVariants as deep
use Rattle.rt_store.specs.declared.refused.StoreRefused.TheVariants.{Failed}
use Rattle.rt_store.specs.Meaning.{Meaning}
use Rattle.rt_commit.specs.declared.job.Job.{Job}
use Rattle.rt_commit.specs.declared.job.JobStage.{JobStage}
use Rattle.rt_commit.specs.declared.stepped.Stepped.{Stepped}
use Rattle.rt_commit.specs.Assignment.{Assigned}
use Rattle.rt_commit.specs.Calls.{Makes, MayCall, RanOut, DeepMeaning}
use Rattle.rt_commit.specs.Job.{at_stage, Stepping, call_at, step_at, job_call, job_step}

-- a step of a job, from a stage to the one after it: with some answer that its call could give
abbrev pub StageSteps : {E : Type 0} → Meaning → Meaning → DeepMeaning → DeepMeaning → Assigned → Asked → Moment → JobStage → JobStage → Result Stepped E → Type 0
StageSteps s t d e a q now stage after (Ok did) =
    Makes s t d e (call_at a q now stage) (λ answer. step_at q now stage answer ≡ Some (record { stage = after; did = did }))
StageSteps s t d e a q now stage after (Err refused) = (after ≡ stage) × RanOut s t d e

-- the same of the job
abbrev pub JobSteps : {E : Type 0} → Meaning → Meaning → DeepMeaning → DeepMeaning → Assigned → Job → Moment → Job → Result Stepped E → Type 0
JobSteps s t d e a j now after (Ok did) =
    (x : JobStage) × (after ≡ at_stage j x)
    × Makes s t d e (job_call a j now) (λ answer. job_step j now answer ≡ Some (record { stage = x; did = did }))
JobSteps s t d e a j now after (Err refused) = (after ≡ j) × RanOut s t d e

-- ---- parts of it

-- what a part gives is what the definition gives; none where memory ran out, and then all is as before
abbrev pub Gives : {E : Type 0} → JobStage → Option Stepping → JobStage → Result Stepped E → Type 0
Gives old given new (Ok did) = given ≡ Some (record { stage = new; did = did })
Gives old given new (Err refused) = (given ≡ None) × (new ≡ old)

-- the same of a part that takes no memory
abbrev pub Checked : {E : Type 0} → Option Stepping → JobStage → Result Stepped E → Type 0
Checked given new (Ok did) = given ≡ Some (record { stage = new; did = did })
Checked given new (Err refused) = ⊥

-- memory runs out in the call or after a file was got
abbrev pub MayRunOut : Result (List ℕ) DeepRefused → Type 0
MayRunOut (Ok bytes) = Unit {0}
MayRunOut (Err deep.Absent) = ⊥
MayRunOut (Err (deep.OtherBytes kept offered)) = ⊥
MayRunOut (Err deep.Failed) = ⊥
MayRunOut (Err deep.Memory) = Unit {0}

abbrev pub Checks : {E : Type 0} → Result (List ℕ) DeepRefused → JobStage → Option Stepping → JobStage → Result Stepped E → Type 0
Checks answer old given new (Ok did) = given ≡ Some (record { stage = new; did = did })
Checks answer old given new (Err refused) = MayRunOut answer × (new ≡ old)

-- the next step of a job is lawful over what the store's caller has seen
pub record MayStep (seen : List Seen) (a : Assigned) (j : Job) (now : Moment) : Type 0 where
  pub small : j.asked.sequence.0 < LAST_NUMBER
  pub call : MayCall seen (job_call a j now)

-- what a job at a place needs of its next step
abbrev pub MayStepAt : List Seen → Assigned → Moment → Option Job → Type 0
MayStepAt seen a now None = Unit {0}
MayStepAt seen a now (Some j) = MayStep seen a j now

-- the step of the job in a slot of a list
abbrev pub SlotSteps : {E : Type 0} → Meaning → Meaning → DeepMeaning → DeepMeaning → Assigned → Moment → ℕ → Option Job → List Job → List Job → Result Stepped E → Type 0
SlotSteps s t d e a now place None olds news result = Unit {0}
SlotSteps s t d e a now place (Some j) olds news (Ok did) =
    (x : JobStage) × (news ≡ slice_set olds place (at_stage j x))
    × Makes s t d e (job_call a j now) (λ answer. job_step j now answer ≡ Some (record { stage = x; did = did }))
SlotSteps s t d e a now place (Some j) olds news (Err refused) = (news ≡ olds) × RanOut s t d e
