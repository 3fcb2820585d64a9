-- The calls of a controller, as their clauses say them over told stores, over a past.
use Rattle.std.proofs.Common.{◌≡◌, ℕ, ◌<◌, ◌^◌, List, length, Option, Some, None, Ok, refl, sym, ◌∙◌, ap, subst, arith}
use Rattle.std.specs.Prelude.{slice_get}
use Rattle.rt_base.specs.declared.numbers.Moment.{Moment}
use Rattle.rt_lists.specs.Members.{Has}
use Rattle.rt_model.specs.declared.job_step.JobStep.{JobStep}
use Rattle.rt_model.specs.declared.node.Seen.{Seen}
use Rattle.rt_model.specs.declared.request.Request.{Request}
use Rattle.rt_model.specs.declared.sent.Sent.TheVariants as sent
use Rattle.rt_model.specs.declared.setup.Setup.{Setup}
use Rattle.rt_model.specs.Setup.{IsSetup}
use Rattle.rt_deep.specs.declared.deep_put.DeepPut.{DeepPut}
use Rattle.rt_deep.specs.Memory as deep
use Rattle.rt_store.specs.Meaning.{Told}
use Rattle.rt_store.specs.Memory.{means}
use Rattle.rt_past.specs.IsPast.{IsPast}
use Rattle.rt_past.specs.Past.{Past, Grows, with_files, with_history}
use Rattle.rt_commit.specs.declared.job.Job.{Job}
use Rattle.rt_commit.specs.declared.job.JobStage.TheVariants as stage
use Rattle.rt_commit.specs.Job.{commits}
use Rattle.rt_commit.specs.Right.{EndsSo, MetFault, past_after, told_past}
use Rattle.rt_commit.specs.Told.{ToldDeep, deep_after, store_after}
use Rattle.rt_commit.proofs.Leaving.{IsRead, read_writes, IsKept, kept_files, stage_keeps, few_writes}
use Rattle.rt_controller.specs.declared.handled.Handled.{Handled}
use Rattle.rt_controller.specs.Answers.{Handling}
use Rattle.rt_controller.specs.Controller.{Controlling}
use Rattle.rt_controller.specs.Lasting.{IsControllerOver}
use Rattle.rt_controller.specs.Requests.{Turn, not_leading, uploads, not_assigned, past_last, has_machine, has_none, call_of, handle_call, turn_of}
use Rattle.rt_controller.specs.Right.{HandlesOver, IsHandled, IsReplied, WorksOver, job_at}
use Rattle.rt_controller.specs.Steps.{Handles, Works}
use Rattle.rt_controller.specs.Working.{Working, job_place, work_call, work_call_at, work_call_on}
use Rattle.rt_controller.proofs.OverRequests.{request_answered, request_id, request_kept, request_past, request_stays}
use Rattle.rt_controller.proofs.OverSteps.{work_found, work_kept, work_past, work_replied, work_stays}
use Rattle.rt_controller.proofs.Possible.{request_possible}
use Rattle.rt_controller.proofs.Telling.{told_request, told_work}

-- ---- a past that is all that the stores tell

pub same_past : (past : Past) (h : List Seen) (files : List DeepPut) → past.history ≡ h → past.files ≡ files
    → past ≡ record past { history = h; files = files }
same_past past h files e f =
    let first : List Seen → Past = λ x. record past { history = x; files = past.files } in
    let second : List DeepPut → Past = λ x. record past { history = h; files = x } in
    ap first e ∙ ap second f

-- ---- what a call leaves

request_reads : (r : Request) (turn : Turn) → IsRead (call_of r turn)
request_reads r not_leading = tt
request_reads r (uploads path bytes) = tt
request_reads r not_assigned = tt
request_reads r past_last = tt
request_reads r (has_machine place what) = tt
request_reads r (has_none what) = tt

slot_keeps : (c : Controlling) (now : Moment) (o : Option Job) → IsKept (work_call_at c now o)
slot_keeps c now None = tt
slot_keeps c now (Some j) = stage_keeps c.assigned j.asked now j.stage

place_keeps : (c : Controlling) (now : Moment) (o : Option ℕ) → IsKept (work_call_on c now o)
place_keeps c now None = tt
place_keeps c now (Some place) = slot_keeps c now (slice_get c.jobs place)

-- ---- a request

abbrev handling : Controlling → Handled → Handling
handling new what = record { controller = new; handled = what }

abbrev HandlesTold : Told → Told → ToldDeep → ToldDeep → Controlling → Request → Moment → Controlling → Handled → Type 0
HandlesTold t u d e c r now new what = Handles {E = Unit {0}} (means t) (means u) (deep.means d) (deep.means e) c r now new (Ok what)

handles_told : (setup : Setup) (past : Past) (t u : Told) (d e : ToldDeep) (c new : Controlling) (r : Request) (now : Moment) (what : Handled)
    → IsSetup setup → IsPast setup (told_past past t d) → length t.writes < 2 ^ 64 → Has past.sent (sent.Request r)
    → IsControllerOver setup (told_past past t d) c → HandlesTold t u d e c r now new what
    → HandlesOver setup (told_past past t d) u e c new what
handles_told setup past t u d e c new r now what s k small has i m =
    let call = handle_call c r in
    let exact = told_request t u d e c r now (handling new what) m in
    let after = past_after past t d call in
    let written : u.writes ≡ t.writes = ap (λ (x : Told). x.writes) exact.store ∙ read_writes t call (request_reads r (turn_of c r)) in
    let files : (deep_after d call).files ≡ e.files = ap (λ (x : ToldDeep). x.files) (sym exact.deep) in
    let stored : (store_after t call).writes ≡ t.writes = read_writes t call (request_reads r (turn_of c r)) in
    let same : after ≡ with_files (told_past past t d) e.files = same_past after t.writes e.files stored files in
    let goes = request_past setup past t d c r k has in
    let G : Past → Type 0 = λ p. Grows (told_past past t d) p in
    let R : Past → Type 0 = λ p. IsPast setup p in
    let C : Past → Type 0 = λ p. IsControllerOver setup p new in
    let A : Past → Type 0 = λ p. IsHandled p what in
    record {
      written = written;
      grows = subst G same goes.0;
      right = subst R same goes.1;
      over = subst C same (request_kept setup past t d c r now (handling new what) s k has i exact.made);
      answer = subst A same (request_answered setup past t d c r now (handling new what) s k has i exact.made);
      possible = request_possible setup (told_past past t d) k s small c r has now i.assigned (means t) (means u) d e (handling new what) refl m;
      stay = request_stays setup past t d c r now (handling new what) s k has i exact.made;
      id = request_id setup past t d c r now (handling new what) s k has i exact.made;
    }

pub handles_over : (setup : Setup) (past : Past) (t u : Told) (d e : ToldDeep) (c new : Controlling) (r : Request) (now : Moment) (what : Handled)
    → IsSetup setup → IsPast setup past → length past.history < 2 ^ 64 → past.history ≡ t.writes → past.files ≡ d.files
    → Has past.sent (sent.Request r) → IsControllerOver setup past c → HandlesTold t u d e c r now new what
    → HandlesOver setup past u e c new what
handles_over setup past t u d e c new r now what s k small h f has i m =
    let same = same_past past t.writes d.files h f in
    let R : Past → Type 0 = λ p. IsPast setup p in
    let C : Past → Type 0 = λ p. IsControllerOver setup p c in
    let H : Past → Type 0 = λ p. HandlesOver setup p u e c new what in
    let few : length t.writes < 2 ^ 64 = subst (λ (x : List Seen). length x < 2 ^ 64) h small in
    subst H (sym same) (handles_told setup past t u d e c new r now what s (subst R same k) few has (subst C same i) m)

-- ---- a step of a job

abbrev working : Controlling → JobStep → Working
working new step = record { controller = new; step = step }

works_told : (setup : Setup) (past : Past) (t u : Told) (d e : ToldDeep) (c new : Controlling) (n : ℕ) (now : Moment) (step : JobStep) → IsSetup setup
    → IsPast setup (told_past past t d) → IsControllerOver setup (told_past past t d) c
    → Works (means t) (means u) (deep.means d) (deep.means e) c n now new (Ok step) → WorksOver setup (told_past past t d) t u d e c new n step
works_told setup past t u d e c new n now step s k i m =
    let call = work_call c n now in
    let x = working new step in
    let exact = told_work t u d e c n now x m in
    let after = past_after past t d call in
    let stored : (store_after t call).writes ≡ u.writes = ap (λ (y : Told). y.writes) (sym exact.store) in
    let kept : (deep_after d call).files ≡ d.files = kept_files d call (place_keeps c now (job_place c.jobs n)) in
    let same : after ≡ with_history (told_past past t d) u.writes = same_past after u.writes d.files stored kept in
    let goes = work_past setup past t d c n now s k i in
    let found = work_found setup past t d c n now x s k i exact.made in
    let G : Past → Type 0 = λ p. Grows (told_past past t d) p in
    let R : Past → Type 0 = λ p. IsPast setup p in
    let C : Past → Type 0 = λ p. IsControllerOver setup p new in
    let Y : Past → Type 0 = λ p. IsReplied p step.reply in
    let few = ap (λ (h : List Seen). length h) stored in
    let p = found.job.asked.partition in
    let q = found.job.asked.sequence in
    record {
      files = ap (λ (y : ToldDeep). y.files) exact.deep ∙ kept;
      grows = subst G same goes.0;
      right = subst R same goes.1;
      few = omega (arith, few_writes t call, few);
      over = subst C same (work_kept setup past t d c n now x s k i exact.made);
      reply = subst Y same (work_replied setup past t d c n now x s k i exact.made);
      job = found.job;
      open_job = ap (job_at c.jobs) found.found ∙ found.there;
      ends =
          subst (λ (y : ToldDeep). EndsSo u.writes p q (MetFault t u d y) (commits found.job.stage) step.step step.reply) (sym exact.deep)
          (subst (λ (y : Told). EndsSo y.writes p q (MetFault t y d (deep_after d call)) (commits found.job.stage) step.step step.reply)
          (sym exact.store) found.right.so);
      leaves = found.right.leaves;
      fewer = found.right.fewer;
      stay = work_stays setup past t d c n now x s k i exact.made;
      id = found.right.id;
    }

pub works_over : (setup : Setup) (past : Past) (t u : Told) (d e : ToldDeep) (c new : Controlling) (n : ℕ) (now : Moment) (step : JobStep) → IsSetup setup
    → IsPast setup past → past.history ≡ t.writes → past.files ≡ d.files → IsControllerOver setup past c
    → Works (means t) (means u) (deep.means d) (deep.means e) c n now new (Ok step) → WorksOver setup past t u d e c new n step
works_over setup past t u d e c new n now step s k h f i m =
    let same = same_past past t.writes d.files h f in
    let R : Past → Type 0 = λ p. IsPast setup p in
    let C : Past → Type 0 = λ p. IsControllerOver setup p c in
    let W : Past → Type 0 = λ p. WorksOver setup p t u d e c new n step in
    subst W (sym same) (works_told setup past t u d e c new n now step s (subst R same k) (subst C same i) m)
