-- What the parts of a step promise, put together.
use Rattle.std.proofs.Common.{◌≡◌, ℕ, List, Option, Some, None, Result, Ok, Err, refl, sym, ◌∙◌, ap, subst}
use Rattle.std.specs.Prelude.{slice_get, slice_set, slice_index_or}
use Rattle.std.proofs.lemmas.Option.{get_or_from_slice_get}
use Rattle.rt_base.specs.declared.numbers.Moment.{Moment}
use Rattle.rt_lists.proofs.Lists.{set_same}
use Rattle.rt_model.specs.declared.asked.Asked.{Asked}
use Rattle.rt_store.specs.Meaning.{Meaning}
use Rattle.rt_commit.specs.declared.job.Job.{Job}
use Rattle.rt_commit.specs.declared.job.JobStage.{JobStage}
use Rattle.rt_commit.specs.declared.stepped.Stepped.{Stepped}
use Rattle.rt_commit.specs.Assignment.{Assigned}
use Rattle.rt_commit.specs.Calls.{DeepMeaning}
use Rattle.rt_commit.specs.Job.{at_stage}
use Rattle.rt_commit.specs.Steps.{StageSteps, JobSteps, SlotSteps}

-- ---- a step of a job

-- the job at the stage to which its step led
pub job_steps :
    {E : Type 0} (s t : Meaning) (d e : DeepMeaning) (a : Assigned) (j after : Job) (now : Moment) (x : JobStage) (result : Result Stepped E)
    → after ≡ at_stage j x → StageSteps s t d e a j.asked now j.stage x result → JobSteps s t d e a j now after result
job_steps s t d e a j after now x (Ok did) is m = (x, is, m)
job_steps s t d e a j after now x (Err refused) is m = (is ∙ ap (at_stage j) m.0, m.1)

-- the job in its slot, as it was found there
in_slot :
    {E : Type 0} (s t : Meaning) (d e : DeepMeaning) (a : Assigned) (now : Moment) (place : ℕ) (olds news : List Job) (j new : Job)
    (result : Result Stepped E) → slice_get olds place ≡ Some j → news ≡ slice_set olds place new
    → JobSteps s t d e a j now new result → SlotSteps s t d e a now place (Some j) olds news result
in_slot s t d e a now place olds news j new (Ok did) at is (x, to, m) = (x, is ∙ ap (slice_set olds place) to, m)
in_slot s t d e a now place olds news j new (Err refused) at is (same, out) =
    (is ∙ ap (slice_set olds place) same ∙ set_same olds place j at, out)

-- and in its list
pub slot_steps :
    {E : Type 0} (s t : Meaning) (d e : DeepMeaning) (a : Assigned) (now : Moment) (place : ℕ) (olds : List Job) (x new : Job)
    (result : Result Stepped E) → x ≡ slice_index_or olds place x → JobSteps s t d e a x now new result
    → SlotSteps s t d e a now place (slice_get olds place) olds (slice_set olds place new) result
slot_steps {E = E} s t d e a now place olds x new result is m = by_slot (slice_get olds place) refl
  where
    by_slot : (o : Option Job) → slice_get olds place ≡ o → SlotSteps s t d e a now place o olds (slice_set olds place new) result
    by_slot None at = tt
    by_slot (Some j) at =
        let same : x ≡ j = is ∙ get_or_from_slice_get olds place j x at in
        let P : Job → Type 0 = λ y. JobSteps s t d e a y now new result in
        in_slot s t d e a now place olds (slice_set olds place new) j new result at refl (subst P same m)

pub steps_from :
    {E : Type 0} (s t : Meaning) (d e : DeepMeaning) (a : Assigned) (q : Asked) (now : Moment) (from at after : JobStage)
    (result : Result Stepped E) → from ≡ at → StageSteps s t d e a q now at after result → StageSteps s t d e a q now from after result
steps_from s t d e a q now from at after result is steps =
    let P : JobStage → Type 0 = λ x. StageSteps s t d e a q now x after result in
    subst P (sym is) steps
