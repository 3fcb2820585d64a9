-- Over stores that tell everything each call of a controller has one outcome.
use Rattle.std.proofs.Common.{◌≡◌, ℕ, Option, Some, None, refl, ap}
use Rattle.std.specs.Prelude.{slice_get}
use Rattle.rt_base.specs.declared.numbers.Moment.{Moment}
use Rattle.rt_model.specs.declared.request.Request.{Request}
use Rattle.rt_deep.specs.Memory as deep_memory
use Rattle.rt_store.specs.Meaning.{Told}
use Rattle.rt_store.specs.Memory.{means}
use Rattle.rt_commit.specs.declared.job.Job.{Job}
use Rattle.rt_commit.specs.declared.job.JobStage.TheVariants as stage
use Rattle.rt_commit.specs.Calls.{Call, calls_nothing, puts, gets, reads, sets, creates, Answer, Makes}
use Rattle.rt_commit.specs.Job.{Stepping, job_call, job_step}
use Rattle.rt_commit.specs.Told.{ToldDeep, IsExact}
use Rattle.rt_commit.proofs.Telling.{RunsOut, told_call, out_stage}
use Rattle.rt_controller.specs.Answers.{Handling}
use Rattle.rt_controller.specs.Controller.{Controlling}
use Rattle.rt_controller.specs.Requests.{Turn, not_leading, uploads, not_assigned, past_last, has_machine, has_none, turn_of, call_of, handled_at, handle_call, handle}
use Rattle.rt_controller.specs.Told.{handled_on, worked_on}
use Rattle.rt_controller.specs.Working.{Working, job_place, worked, work_at, work_on, work, work_call_at, work_call_on, work_call}

-- ---- a request

pub out_turn : (c : Controlling) (r : Request) (now : Moment) (turn : Turn) → RunsOut (handled_at c r now turn) (call_of r turn)
out_turn c r now not_leading = tt
out_turn c r now (uploads path bytes) = refl
out_turn c r now not_assigned = tt
out_turn c r now past_last = tt
out_turn c r now (has_machine place what) = tt
out_turn c r now (has_none what) = refl

pub told_request : (t u : Told) (d e : ToldDeep) (c : Controlling) (r : Request) (now : Moment) (x : Handling)
    → Makes (means t) (means u) (deep_memory.means d) (deep_memory.means e) (handle_call c r) (λ a. handle c r now a ≡ Some x)
    → IsExact t u d e (handle_call c r) (handled_on t d c r now) x
told_request t u d e c r now x m =
    told_call t u d e (handle_call c r) (handle c r now) x (out_turn c r now (turn_of c r)) m

-- ---- a step of a job

out_worked : (c : Controlling) (place : ℕ) (j : Job) (f : Answer → Option Stepping) (call : Call) → RunsOut f call
    → RunsOut (λ a. worked c place j (f a)) call
out_worked c place j f calls_nothing none = tt
out_worked c place j f (puts path bytes) none = ap (worked c place j) none
out_worked c place j f (gets path) none = ap (worked c place j) none
out_worked c place j f (reads k) none = ap (worked c place j) none
out_worked c place j f (sets from n) none = ap (worked c place j) none
out_worked c place j f (creates k n prior) none = ap (worked c place j) none

out_slot : (c : Controlling) (now : Moment) (place : ℕ) (o : Option Job)
    → RunsOut (λ a. work_at c now a place o) (work_call_at c now o)
out_slot c now place None = tt
out_slot c now place (Some j) =
    out_worked c place j (job_step j now) (job_call c.assigned j now) (out_stage c.assigned j.asked now j.stage)

pub out_place : (c : Controlling) (now : Moment) (o : Option ℕ) → RunsOut (λ a. work_on c now a o) (work_call_on c now o)
out_place c now None = tt
out_place c now (Some place) = out_slot c now place (slice_get c.jobs place)

pub told_work : (t u : Told) (d e : ToldDeep) (c : Controlling) (n : ℕ) (now : Moment) (x : Working)
    → Makes (means t) (means u) (deep_memory.means d) (deep_memory.means e) (work_call c n now) (λ a. work c n now a ≡ Some x)
    → IsExact t u d e (work_call c n now) (worked_on t d c n now) x
told_work t u d e c n now x m =
    told_call t u d e (work_call c n now) (work c n now) x (out_place c now (job_place c.jobs n)) m
