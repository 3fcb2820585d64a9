-- The step of a controller's job: the call that it makes, and what the controller makes of its answer.
use Rattle.std.specs.Prelude.{ℕ, Bool, ◌==◌, List, slice_get, slice_set, Option, Some, None, is_some}
use Rattle.std.specs.List.{position, remove}
use Rattle.rt_base.specs.declared.numbers.Moment.{Moment}
use Rattle.rt_model.specs.declared.asked.Asked.{Asked}
use Rattle.rt_model.specs.declared.job_step.JobStep.{JobStep}
use Rattle.rt_model.specs.declared.reply.ReplyStatus.{ReplyStatus}
use Rattle.rt_model.specs.declared.reply.ReplyStatus.TheVariants as status
use Rattle.rt_commit.specs.declared.job.Job.{Job}
use Rattle.rt_commit.specs.declared.job.JobStage.TheVariants as stage
use Rattle.rt_commit.specs.declared.job.JobStage.{JobStage}
use Rattle.rt_commit.specs.declared.stepped.Stepped.{Stepped}
use Rattle.rt_commit.specs.Calls.{Call, calls_nothing, Answer}
use Rattle.rt_commit.specs.Job.{Stepping, commits, job_call, job_step, job_sets, at_stage}
use Rattle.rt_controller.specs.Controller.{Controlling, reply_to, without_machine}

-- ---- a step of a job

abbrev pub has_number : ℕ → Job → Bool
has_number n j = j.number == n

-- the place of the unfinished job of a number
abbrev pub job_place : List Job → ℕ → Option ℕ
job_place js n = position (has_number n) js

-- the controller after a step of a job, and what it tells of the step
pub record Working : Type 0 where
  pub controller : Controlling
  pub step : JobStep

-- a job that goes on stays in its place, and one that ended leaves it
abbrev pub settled : Controlling → ℕ → Asked → Bool → Stepped → Option ReplyStatus → Working
settled c place a commit did None =
    record { controller = c; step = record { step = did.step; outcome = did.outcome; reply = None } }
settled c place a commit did (Some s) =
    record {
      controller =
          record c { machines = without_machine c.machines a commit; jobs = remove c.jobs place };
      step = record { step = did.step; outcome = did.outcome; reply = Some (reply_to a s) };
    }

-- the job in its place at its next stage
abbrev pub with_stage : Controlling → ℕ → Job → JobStage → Controlling
with_stage c place j s = record c { jobs = slice_set c.jobs place (at_stage j s) }

abbrev pub worked : Controlling → ℕ → Job → Option Stepping → Option Working
worked c place j None = None
worked c place j (Some x) = Some (settled (with_stage c place j x.stage) place j.asked (commits j.stage) x.did x.did.status)

abbrev pub work_at : Controlling → Moment → Answer → ℕ → Option Job → Option Working
work_at c now answer place None = None
work_at c now answer place (Some j) = worked c place j (job_step j now answer)

abbrev pub work_on : Controlling → Moment → Answer → Option ℕ → Option Working
work_on c now answer None = None
work_on c now answer (Some place) = work_at c now answer place (slice_get c.jobs place)

-- the step of a controller's job of a number, with the answer of its call; none where there is no such job, or where
-- memory ran out in the call
abbrev pub work : Controlling → ℕ → Moment → Answer → Option Working
work c n now answer = work_on c now answer (job_place c.jobs n)

abbrev pub work_call_at : Controlling → Moment → Option Job → Call
work_call_at c now None = calls_nothing
work_call_at c now (Some j) = job_call c.assigned j now

abbrev pub work_call_on : Controlling → Moment → Option ℕ → Call
work_call_on c now None = calls_nothing
work_call_on c now (Some place) = work_call_at c now (slice_get c.jobs place)

abbrev pub work_call : Controlling → ℕ → Moment → Call
work_call c n now = work_call_on c now (job_place c.jobs n)

abbrev pub is_open : Controlling → ℕ → Bool
is_open c n = is_some (job_place c.jobs n)

abbrev pub sets_of : Controlling → Option Job → Option ℕ
sets_of c None = None
sets_of c (Some j) = job_sets c.assigned j

abbrev pub sets_on : Controlling → Option ℕ → Option ℕ
sets_on c None = None
sets_on c (Some place) = sets_of c (slice_get c.jobs place)

-- the number of entries of the ideal state that the next step of the job of a number sets
abbrev pub sets_next : Controlling → ℕ → Option ℕ
sets_next c n = sets_on c (job_place c.jobs n)
