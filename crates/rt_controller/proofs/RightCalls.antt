-- Each call of a controller writes and puts what is right, so that the past goes on right.
use Rattle.std.proofs.Common.{◌≡◌, ℕ, Option, Some, None, refl}
use Rattle.std.specs.Prelude.{slice_get}
use Rattle.rt_base.specs.declared.numbers.Moment.{Moment}
use Rattle.rt_lists.specs.Members.{Has}
use Rattle.rt_lists.proofs.Lists.{All-found}
use Rattle.rt_model.specs.declared.request.Request.{Request}
use Rattle.rt_model.specs.declared.sent.Sent.TheVariants as sent
use Rattle.rt_model.specs.declared.setup.Setup.{Setup}
use Rattle.rt_model.specs.Setup.{IsSetup}
use Rattle.rt_store.specs.Contents.{starting_of}
use Rattle.rt_past.specs.IsPast.{IsPast}
use Rattle.rt_past.specs.Past.{Past}
use Rattle.rt_commit.specs.declared.job.Job.{Job}
use Rattle.rt_commit.specs.declared.job.JobStage.TheVariants as stage
use Rattle.rt_commit.specs.Lasting.{IsJobOver}
use Rattle.rt_commit.proofs.RightCalls.{IsRightCall, stage_right}
use Rattle.rt_controller.specs.Controller.{Controlling}
use Rattle.rt_controller.specs.Lasting.{IsControllerOver}
use Rattle.rt_controller.specs.Requests.{Turn, not_leading, uploads, not_assigned, past_last, has_machine, has_none, turn_of, call_of, handle_call}
use Rattle.rt_controller.specs.Working.{job_place, work_call, work_call_at, work_call_on}
use Rattle.rt_controller.proofs.Lasts.{ready_over}
use Rattle.rt_controller.proofs.MayStep.{may_step_at}
use Rattle.rt_controller.proofs.Turns.{Tells, told_turn}

-- ---- a request

request_turn : (setup : Setup) (past : Past) (c : Controlling) (r : Request) (turn : Turn) → Has past.sent (sent.Request r) → Tells c r turn
    → IsRightCall setup past (call_of r turn)
request_turn setup past c r not_leading has told = tt
request_turn setup past c r (uploads path bytes) has told = (r, has, told)
request_turn setup past c r not_assigned has told = tt
request_turn setup past c r past_last has told = tt
request_turn setup past c r (has_machine place what) has told = tt
request_turn setup past c r (has_none what) has told = tt

pub request_call : (setup : Setup) (past : Past) (c : Controlling) (r : Request) → Has past.sent (sent.Request r)
    → IsRightCall setup past (handle_call c r)
request_call setup past c r has = request_turn setup past c r (turn_of c r) has (told_turn c r)

-- ---- a step of a job

slot_right : (setup : Setup) (past : Past) (c : Controlling) (now : Moment) (place : ℕ) (o : Option Job) → IsSetup setup → IsPast setup past
    → IsControllerOver setup past c → slice_get c.jobs place ≡ o → IsRightCall setup past (work_call_at c now o)
slot_right setup past c now place None s k i at = tt
slot_right setup past c now place (Some j) s k i at =
    let ready = ready_over setup past c s k i in
    let job = All-found (IsJobOver setup past) c.jobs place j i.jobs at in
    let may = may_step_at (starting_of setup) past.history c now place (Some j) ready at in
    stage_right setup past c.assigned j.asked now j.stage i.assigned job.job.within k job.asked job.job.at job.backed may.call

place_right : (setup : Setup) (past : Past) (c : Controlling) (now : Moment) (o : Option ℕ) → IsSetup setup → IsPast setup past
    → IsControllerOver setup past c → IsRightCall setup past (work_call_on c now o)
place_right setup past c now None s k i = tt
place_right setup past c now (Some place) s k i = slot_right setup past c now place (slice_get c.jobs place) s k i refl

pub work_call_right : (setup : Setup) (past : Past) (c : Controlling) (n : ℕ) (now : Moment) → IsSetup setup → IsPast setup past
    → IsControllerOver setup past c → IsRightCall setup past (work_call c n now)
work_call_right setup past c n now s k i = place_right setup past c now (job_place c.jobs n) s k i
