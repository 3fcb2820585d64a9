-- A step of a job over a past and stores that tell everything.
use Rattle.std.proofs.Common.{◌≡◌, ℕ, Option, Some, None, Result, Ok, refl, sym, ap, ◌∙◌}
use Rattle.std.specs.Prelude.{slice_get}
use Rattle.std.proofs.lemmas.Option.{none-some}
use Rattle.rt_base.specs.declared.numbers.Moment.{Moment}
use Rattle.rt_model.specs.declared.job_step.JobStep.{JobStep}
use Rattle.rt_model.specs.declared.setup.Setup.{Setup}
use Rattle.rt_model.specs.Lawful.{IsLawfulHistory}
use Rattle.rt_model.specs.Setup.{IsSetup}
use Rattle.rt_deep.specs.Memory as deep
use Rattle.rt_store.specs.Contents.{starting_of}
use Rattle.rt_store.specs.Meaning.{Meaning, Told}
use Rattle.rt_store.specs.Memory.{means}
use Rattle.rt_past.specs.IsPast.{IsPast}
use Rattle.rt_past.specs.Past.{Past}
use Rattle.rt_commit.specs.declared.job.Job.{Job}
use Rattle.rt_commit.specs.Calls.{Makes, DeepMeaning}
use Rattle.rt_commit.specs.Causes.{Rose}
use Rattle.rt_commit.specs.Job.{job_call, job_step}
use Rattle.rt_commit.specs.Right.{past_after, told_past}
use Rattle.rt_commit.specs.Told.{ToldDeep, deep_after, store_after}
use Rattle.rt_commit.proofs.RightCalls.{GoesOnRight, call_goes_on}
use Rattle.rt_controller.specs.declared.handled.JobRefused.{JobRefused}
use Rattle.rt_controller.specs.Controller.{Controlling}
use Rattle.rt_controller.specs.IsController.{IsController}
use Rattle.rt_controller.specs.Lasting.{IsControllerOver}
use Rattle.rt_controller.specs.Right.{IsReplied, job_at, job_of}
use Rattle.rt_controller.specs.Told.{worked_on}
use Rattle.rt_controller.specs.Working.{Working, job_place, work_at, work_call, work_call_at, work_call_on, work_on, worked}
use Rattle.rt_controller.proofs.JobsStay.{job_found, job_stays}
use Rattle.rt_controller.proofs.Keeps.{keeps_work}
use Rattle.rt_controller.proofs.Lasts.{controller_lasts, ready_over}
use Rattle.rt_controller.proofs.LastsParts.{whole_of}
use Rattle.rt_controller.proofs.LastsSteps.{StepsRight, work_right}
use Rattle.rt_controller.proofs.OwnAnswers.{step_answers}
use Rattle.rt_controller.proofs.Realized.{made_work}
use Rattle.rt_controller.proofs.RightCalls.{work_call_right}

pub work_past : (setup : Setup) (past : Past) (t : Told) (d : ToldDeep) (c : Controlling) (n : ℕ) (now : Moment) → IsSetup setup
    → IsPast setup (told_past past t d) → IsControllerOver setup (told_past past t d) c
    → GoesOnRight setup (told_past past t d) (past_after past t d (work_call c n now))
work_past setup past t d c n now s k i =
    call_goes_on setup past t d (work_call c n now) k (work_call_right setup (told_past past t d) c n now s k i)

-- the job that was found, and what its step was
pub record Found (setup : Setup) (past : Past) (s t : Meaning) (d e : DeepMeaning) (c : Controlling) (n : ℕ) (now : Moment) (w : Working) : Type 0 where
  pub place : ℕ
  pub found : job_place c.jobs n ≡ Some place
  pub job : Job
  pub there : slice_get c.jobs place ≡ Some job
  pub made : Makes s t d e (job_call c.assigned job now) (λ a. worked c place job (job_step job now a) ≡ Some w)
  pub right : StepsRight setup past c n job (Rose s t d e) w

module _ (setup : Setup) (past : Past) (k : IsPast setup past) (s t : Meaning) (d e : DeepMeaning) (c : Controlling) (n : ℕ) (now : Moment) (w : Working)
    (lasts : IsControllerOver setup past c) (old : IsLawfulHistory (starting_of setup) s.seen)
    (is_history : t.seen ≡ past.history) (are_files : e.seen ≡ past.files) where
  found_slot : (place : ℕ) (o : Option Job) → job_place c.jobs n ≡ Some place → slice_get c.jobs place ≡ o
      → Makes s t d e (work_call_at c now o) (λ a. work_at c now a place o ≡ Some w) → Found setup past s t d e c n now w
  found_slot place None f at m = absurd (none-some w m.2)
  found_slot place (Some j) f at m =
      record {
        place = place;
        found = f;
        job = j;
        there = at;
        made = m;
        right = work_right setup past k s t d e c n now lasts old is_history are_files place j w f at m;
      }

  found_place : (o : Option ℕ) → job_place c.jobs n ≡ o → Makes s t d e (work_call_on c now o) (λ a. work_on c now a o ≡ Some w)
      → Found setup past s t d e c n now w
  found_place None f m = absurd (none-some w m.2)
  found_place (Some place) f m = found_slot place (slice_get c.jobs place) f refl m

module _ (setup : Setup) (past : Past) (t : Told) (d : ToldDeep) (c : Controlling) (n : ℕ) (now : Moment) (x : Working)
    (s : IsSetup setup) (k : IsPast setup (told_past past t d)) (i : IsControllerOver setup (told_past past t d) c)
    (e : worked_on t d c n now ≡ Some x) where
  abbrev after : Past
  after = past_after past t d (work_call c n now)

  abbrev later : Told
  later = store_after t (work_call c n now)

  abbrev later_deep : ToldDeep
  later_deep = deep_after d (work_call c n now)

  goes : GoesOnRight setup (told_past past t d) after
  goes = work_past setup past t d c n now s k i

  over : IsControllerOver setup after c
  over = controller_lasts setup (told_past past t d) after c goes.0 i

  pub work_found : Found setup after (means t) (means later) (deep.means d) (deep.means later_deep) c n now x
  work_found =
      found_place setup after goes.1 (means t) (means later) (deep.means d) (deep.means later_deep) c n now x over k.lawful refl refl (job_place c.jobs n) refl (made_work t d c n now x k.once e)

  remembers : IsController (starting_of setup) after.history x.controller
  remembers =
      let step : Result JobStep JobRefused = Ok x.step in
      keeps_work (starting_of setup) (means t) (means later) (deep.means d) (deep.means later_deep) c n now x.controller step
      (ready_over setup (told_past past t d) c s k i) (made_work t d c n now x k.once e)

  pub work_kept : IsControllerOver setup after x.controller
  work_kept = whole_of setup after x.controller remembers work_found.right.lasts

  pub work_replied : IsReplied after x.step.reply
  work_replied =
      step_answers after (starting_of setup) (means t) (means later) (deep.means d) (deep.means later_deep) c x.controller n now x.step
      (record { history = refl; files = refl }) (λ m h lt. (over.jobs m h lt).asked) (ready_over setup (told_past past t d) c s k i)
      (made_work t d c n now x k.once e)

  -- another job stays as it is
  pub work_stays : (m : ℕ) (j : Job) → (m ≡ n → ⊥) → job_of c m ≡ Some j → job_of x.controller m ≡ Some j
  work_stays m j other at =
      let f = work_found in
      let stepped = job_found c.jobs n (job_place c.jobs n) f.job refl (ap (job_at c.jobs) f.found ∙ f.there) in
      let own = job_found c.jobs m (job_place c.jobs m) j refl at in
      let apart : j ≡ f.job → ⊥ = λ e. other (sym own.1 ∙ ap (λ (k : Job). k.number) e ∙ stepped.1) in
      job_stays c.jobs x.controller.jobs x.controller.started m j f.right.lasts.numbered (f.right.others j apart) at
