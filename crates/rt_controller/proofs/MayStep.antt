-- What a controller remembers makes the write of its job's next step lawful.
use Rattle.std.proofs.Common.{◌≡◌, ℕ, List, Option, Some, None, refl}
use Rattle.std.specs.Prelude.{slice_get}
use Rattle.rt_base.specs.declared.numbers.Moment.{Moment}
use Rattle.rt_lists.proofs.Lists.{All-found}
use Rattle.rt_model.specs.declared.node.Seen.{Seen}
use Rattle.rt_model.specs.Starting.{Starting}
use Rattle.rt_commit.specs.declared.job.Job.{Job}
use Rattle.rt_commit.specs.declared.job.JobStage.TheVariants as stage
use Rattle.rt_commit.specs.IsJob.{IsJob}
use Rattle.rt_commit.specs.Steps.{MayStep, MayStepAt}
use Rattle.rt_commit.proofs.MayStep.{may_at}
use Rattle.rt_controller.specs.Controller.{Controlling}
use Rattle.rt_controller.specs.IsController.{IsController}
use Rattle.rt_controller.specs.Steps.{MayStepOn}

-- ---- a job

pub may_step : (s : Starting) (seen : List Seen) (c : Controlling) (now : Moment) (place : ℕ) (j : Job)
    → IsController s seen c → slice_get c.jobs place ≡ Some j → MayStep seen c.assigned j now
may_step s seen c now place j k e =
    let job = All-found (IsJob s seen) c.jobs place j k.jobs e in
    record { small = job.small; call = may_at seen c.assigned j.asked now j.stage k.assigned job.at }

-- and so at each place, and for each number
pub may_step_at : (s : Starting) (seen : List Seen) (c : Controlling) (now : Moment) (place : ℕ) (o : Option Job)
    → IsController s seen c → slice_get c.jobs place ≡ o → MayStepAt seen c.assigned now o
may_step_at s seen c now place None k e = tt
may_step_at s seen c now place (Some j) k e = may_step s seen c now place j k e

pub may_step_on : (s : Starting) (seen : List Seen) (c : Controlling) (now : Moment) (o : Option ℕ)
    → IsController s seen c → MayStepOn seen c now o
may_step_on s seen c now None k = tt
may_step_on s seen c now (Some place) k = may_step_at s seen c now place (slice_get c.jobs place) k refl
