-- The step that reads the uploaded file makes one call, of the deep store.
use Rattle.std.proofs.Common.{◌≡◌, inl, ℕ, List, Result, Ok, Err, refl, subst}
use Rattle.rt_base.specs.declared.numbers.Moment.{Moment}
use Rattle.rt_base.specs.declared.numbers.Offset.{Offset}
use Rattle.rt_model.specs.declared.asked.Asked.{Asked}
use Rattle.rt_model.specs.declared.node.Seen.{Seen}
use Rattle.rt_deep.specs.declared.refused.DeepRefused.{DeepRefused}
use Rattle.rt_deep.specs.Calls as of_deep
use Rattle.rt_store.specs.Meaning.{Meaning}
use Rattle.rt_commit.specs.declared.job.JobStage.TheVariants as stage
use Rattle.rt_commit.specs.declared.job.JobStage.{JobStage}
use Rattle.rt_commit.specs.declared.stepped.Stepped.{Stepped}
use Rattle.rt_commit.specs.Assignment.{Assigned}
use Rattle.rt_commit.specs.Calls.{DeepMeaning}
use Rattle.rt_commit.specs.Job.{after_get}
use Rattle.rt_commit.specs.Steps.{Checks, StageSteps}
use Rattle.rt_commit.proofs.RunningOut.{get_ran_out}

pub check_makes :
    {E : Type 0} (s : Meaning) (d e : DeepMeaning) (a : Assigned) (q : Asked) (now : Moment) (from : Seen) (end : Offset) (path asked_path : List ℕ)
    (answer : Result (List ℕ) DeepRefused) (new : JobStage) (result : Result Stepped E)
    → asked_path ≡ path → of_deep.Gets d e asked_path answer
    → Checks answer (stage.Check from end path) (after_get q from end path answer) new result
    → StageSteps s s d e a q now (stage.Check from end path) new result
check_makes s d e a q now from end path asked_path answer new (Ok did) same c k =
    (answer, subst (λ (p : List ℕ). of_deep.Gets d e p answer) same c, refl, k)
check_makes s d e a q now from end path asked_path answer new (Err refused) same c k =
    (k.1, (inl refl, get_ran_out d e asked_path answer c k.0))
