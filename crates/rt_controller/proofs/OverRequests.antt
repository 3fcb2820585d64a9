-- A request to a controller over a past and stores that tell everything.
use Rattle.std.proofs.Common.{◌≡◌, ℕ, Some, Result, Ok, refl}
use Rattle.rt_base.specs.declared.numbers.Moment.{Moment}
use Rattle.rt_lists.specs.Members.{Has}
use Rattle.rt_lists.proofs.Members.{Has-front}
use Rattle.rt_model.specs.declared.request.Request.{Request}
use Rattle.rt_model.specs.declared.sent.Sent.TheVariants as sent
use Rattle.rt_model.specs.declared.setup.Setup.{Setup}
use Rattle.rt_model.specs.Setup.{IsSetup}
use Rattle.rt_deep.specs.Memory as deep
use Rattle.rt_store.specs.Contents.{starting_of}
use Rattle.rt_store.specs.Meaning.{Told}
use Rattle.rt_store.specs.Memory.{means}
use Rattle.rt_past.specs.IsPast.{IsPast}
use Rattle.rt_past.specs.Past.{Past}
use Rattle.rt_commit.specs.declared.job.Job.{Job}
use Rattle.rt_commit.specs.Right.{past_after, told_past}
use Rattle.rt_commit.specs.Told.{ToldDeep, deep_after, store_after}
use Rattle.rt_commit.proofs.RightCalls.{GoesOnRight, call_goes_on}
use Rattle.rt_controller.specs.declared.handled.Handled.{Handled}
use Rattle.rt_controller.specs.Answers.{Handling}
use Rattle.rt_controller.specs.Controller.{Controlling}
use Rattle.rt_controller.specs.IsController.{IsController}
use Rattle.rt_controller.specs.Lasting.{IsControllerOver}
use Rattle.rt_controller.specs.Requests.{handle_call}
use Rattle.rt_controller.specs.Right.{IsHandled, job_of}
use Rattle.rt_controller.specs.Told.{handled_on}
use Rattle.rt_controller.proofs.JobsStay.{job_stays}
use Rattle.rt_controller.proofs.KeepsRequests.{keeps_request}
use Rattle.rt_controller.proofs.Lasts.{controller_lasts, ready_over}
use Rattle.rt_controller.proofs.LastsParts.{Stays, parts_of, whole_of}
use Rattle.rt_controller.proofs.LastsRequests.{request_lasts}
use Rattle.rt_controller.proofs.OwnAnswers.{request_answers}
use Rattle.rt_controller.proofs.Realized.{made_request}
use Rattle.rt_controller.proofs.RightCalls.{request_call}

pub request_past : (setup : Setup) (past : Past) (t : Told) (d : ToldDeep) (c : Controlling) (r : Request) → IsPast setup (told_past past t d)
    → Has past.sent (sent.Request r) → GoesOnRight setup (told_past past t d) (past_after past t d (handle_call c r))
request_past setup past t d c r k has =
    call_goes_on setup past t d (handle_call c r) k (request_call setup (told_past past t d) c r has)

module _ (setup : Setup) (past : Past) (t : Told) (d : ToldDeep) (c : Controlling) (r : Request) (now : Moment) (x : Handling)
    (s : IsSetup setup) (k : IsPast setup (told_past past t d)) (has : Has past.sent (sent.Request r)) (i : IsControllerOver setup (told_past past t d) c)
    (e : handled_on t d c r now ≡ Some x) where
  abbrev after : Past
  after = past_after past t d (handle_call c r)

  abbrev later : Told
  later = store_after t (handle_call c r)

  abbrev later_deep : ToldDeep
  later_deep = deep_after d (handle_call c r)

  goes : GoesOnRight setup (told_past past t d) after
  goes = request_past setup past t d c r k has

  stays : Stays setup after c x.controller
  stays =
      request_lasts setup after r has (goes.1.requests r has) (means t) (means later) (deep.means d) (deep.means later_deep) c now x
      (parts_of setup after c (controller_lasts setup (told_past past t d) after c goes.0 i)) (made_request t d c r now x k.once e)

  remembers : IsController (starting_of setup) after.history x.controller
  remembers =
      let what : Result Handled (Unit {0}) = Ok x.handled in
      keeps_request (starting_of setup) (means t) (means later) (deep.means d) (deep.means later_deep) c r now x.controller what
      (goes.1.requests r has).partition (ready_over setup (told_past past t d) c s k i) (made_request t d c r now x k.once e)

  pub request_kept : IsControllerOver setup after x.controller
  request_kept = whole_of setup after x.controller remembers stays.lasts

  pub request_answered : IsHandled after x.handled
  request_answered =
      request_answers after (means t) (means later) (deep.means d) (deep.means later_deep) c x.controller r now x.handled
      (record { history = refl; files = refl }) has (made_request t d c r now x k.once e)

  pub request_id : x.controller.id ≡ c.id
  request_id = stays.id

  pub request_stays : (n : ℕ) (j : Job) → job_of c n ≡ Some j → job_of x.controller n ≡ Some j
  request_stays n j at =
      job_stays c.jobs x.controller.jobs x.controller.started n j stays.lasts.numbered (Has-front c.jobs x.controller.jobs j stays.jobs) at
