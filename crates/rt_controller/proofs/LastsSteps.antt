-- What lasts of a controller is kept by each step of a job, and how a job ends.
use Rattle.std.proofs.Common.{◌≡◌, ℕ, ◌<◌, Option, Some, None, refl, subst}
use Rattle.std.specs.Prelude.{slice_get}
use Rattle.std.proofs.lemmas.List.Elements.{All-set}
use Rattle.std.proofs.lemmas.Option.{none-some, same_Some}
use Rattle.rt_base.specs.declared.numbers.Moment.{Moment}
use Rattle.rt_lists.specs.Members.{Has}
use Rattle.rt_lists.proofs.Lists.{All-found}
use Rattle.rt_model.specs.declared.asked.Asked.{Asked}
use Rattle.rt_model.specs.declared.reply.ReplyStatus.{ReplyStatus}
use Rattle.rt_model.specs.declared.setup.Setup.{Setup}
use Rattle.rt_model.specs.Lawful.{IsLawfulHistory}
use Rattle.rt_store.specs.Contents.{starting_of}
use Rattle.rt_store.specs.Meaning.{Meaning}
use Rattle.rt_past.specs.IsPast.{IsPast}
use Rattle.rt_past.specs.Past.{Past}
use Rattle.rt_commit.specs.declared.job.Job.{Job}
use Rattle.rt_commit.specs.declared.job.JobStage.TheVariants as stage
use Rattle.rt_commit.specs.declared.job.JobStage.{JobStage}
use Rattle.rt_commit.specs.Calls.{got, read, set, created, Makes, DeepMeaning}
use Rattle.rt_commit.specs.Causes.{Rose}
use Rattle.rt_commit.specs.Job.{at_stage, Stepping, call_at, commits, job_call, job_step, step_at}
use Rattle.rt_commit.specs.Lasting.{IsBacked, IsJobOver, WasSent}
use Rattle.rt_commit.specs.Laws.{IsTrying}
use Rattle.rt_commit.specs.Right.{EndsSo, StatusSo}
use Rattle.rt_commit.proofs.Ending.{Falls, falls}
use Rattle.rt_commit.proofs.Lasts.{JobLasts}
use Rattle.rt_commit.proofs.LastsJobs.{step_so}
use Rattle.rt_commit.proofs.Making.{makes_some}
use Rattle.rt_controller.specs.Controller.{Controlling}
use Rattle.rt_controller.specs.Lasting.{IsControllerOver}
use Rattle.rt_controller.specs.Right.{LeavesJob, job_of, left_of}
use Rattle.rt_controller.specs.Working.{Working, job_place, settled, with_stage, worked}
use Rattle.rt_controller.proofs.JobOf.{fewer_left, job_goes, job_gone}
use Rattle.rt_controller.proofs.JobsStay.{settled_keeps}
use Rattle.rt_controller.proofs.Keeps.{All-remove_set, without}
use Rattle.rt_controller.proofs.LastsMachines.{MachineLasts}
use Rattle.rt_controller.proofs.LastsParts.{Lasts, parts_of}
use Rattle.rt_controller.proofs.Numbered.{goes_numbered, ends_numbered}
use Rattle.rt_controller.proofs.PairedJobs.{goes_paired, ends_paired, without_one}

-- ---- what a step of a job leaves of its controller

-- it goes on with what lasts, or it ends
abbrev pub GoesOrEnds : Setup → Past → Job → Stepping → Option ReplyStatus → Type 0
GoesOrEnds setup past j x None = IsBacked setup past j.asked x.stage × Falls j.stage x.stage
GoesOrEnds setup past j x (Some r) = Unit {0}

settles : (setup : Setup) (past : Past) (c : Controlling) (place : ℕ) (j : Job) (x : Stepping) (o : Option ReplyStatus) → Lasts setup past c
    → slice_get c.jobs place ≡ Some j → WasSent past j.asked → GoesOrEnds setup past j x o
    → Lasts setup past (settled (with_stage c place j x.stage) place j.asked (commits j.stage) x.did o).controller
settles setup past c place j x None k at asked goes =
    record {
      assigned = k.assigned;
      machines = k.machines;
      jobs =
          All-set (JobLasts setup past) c.jobs place (at_stage j x.stage)
          (record { asked = asked; backed = goes.0; trying = goes.1.trying }) k.jobs;
      one = k.one;
      paired = goes_paired c.machines c.jobs place j x.stage at goes.1.end k.paired;
      numbered = goes_numbered c.jobs c.started place j x.stage at k.numbered;
    }
settles setup past c place j x (Some r) k at asked goes =
    record {
      assigned = k.assigned;
      machines = without (MachineLasts setup past) c.machines j.asked (commits j.stage) k.machines;
      jobs = All-remove_set (JobLasts setup past) c.jobs place (at_stage j x.stage) k.jobs;
      one = without_one c.machines j.asked (commits j.stage) k.one;
      paired = ends_paired c.machines c.jobs place j x.stage at k.one k.paired;
      numbered = ends_numbered c.jobs c.started place j x.stage at k.numbered;
    }

-- ---- a step of the job of a number

-- what is told of a step, and what it leaves
pub record StepsRight (setup : Setup) (past : Past) (c : Controlling) (n : ℕ) (j : Job) (rose : Type 0) (w : Working) : Type 0 where
  pub lasts : Lasts setup past w.controller
  pub so : EndsSo past.history j.asked.partition j.asked.sequence rose (commits j.stage) w.step.step w.step.reply
  pub leaves : LeavesJob j w.step.reply (job_of w.controller n)
  pub fewer : left_of w.controller n < left_of c n
  pub id : w.controller.id ≡ c.id
  pub others : (k : Job) → (k ≡ j → ⊥) → Has c.jobs k → Has w.controller.jobs k

module _ (setup : Setup) (past : Past) (k : IsPast setup past) (s t : Meaning) (d e : DeepMeaning) (c : Controlling) (n : ℕ) (now : Moment)
    (lasts : IsControllerOver setup past c) (old : IsLawfulHistory (starting_of setup) s.seen)
    (is_history : t.seen ≡ past.history) (are_files : e.seen ≡ past.files) where
  abbrev rose : Type 0
  rose = Rose s t d e

  falls_made : (q : Asked) (from : JobStage) (x : Stepping) → IsTrying from
      → Makes s t d e (call_at c.assigned q now from) (λ answer. step_at q now from answer ≡ Some x) → x.did.status ≡ None → Falls from x.stage
  falls_made q (stage.Check from end path) x trying (answer, m, same, f) none = falls q now (stage.Check from end path) (got answer) x trying f none
  falls_made q (stage.Done from commit) x trying (answer, m, same, f) none = falls q now (stage.Done from commit) (set answer) x trying f none
  falls_made q (stage.Next done) x trying (answer, m, same, f) none = falls q now (stage.Next done) (created answer) x trying f none
  falls_made q (stage.IdealRead w found) x trying (answer, m, same, f) none = falls q now (stage.IdealRead w found) (read answer) x trying f none
  falls_made q (stage.IdealSet w found ideal) x trying (answer, m, same, f) none = falls q now (stage.IdealSet w found ideal) (set answer) x trying f none
  falls_made q stage.Ended x trying m none = absurd trying

  abbrev So : Job → Stepping → Option ReplyStatus → Type 0
  So j x None = IsBacked setup past j.asked x.stage
  So j x (Some r) = StatusSo past.history j.asked.partition j.asked.sequence rose (commits j.stage) x.did.step r

  goes_or_ends : (j : Job) (x : Stepping) (o : Option ReplyStatus) → So j x o → (o ≡ None → Falls j.stage x.stage) → GoesOrEnds setup past j x o
  goes_or_ends j x None so falls = (so, falls refl)
  goes_or_ends j x (Some r) so falls = tt

  told_step : (j : Job) (place : ℕ) (x : Stepping) (o : Option ReplyStatus) → IsJobOver setup past j → job_place c.jobs n ≡ Some place
      → slice_get c.jobs place ≡ Some j → So j x o
      → (o ≡ None → Falls j.stage x.stage)
      → StepsRight setup past c n j rose (settled (with_stage c place j x.stage) place j.asked (commits j.stage) x.did o)
  told_step j place x None job found at so f =
      record {
        lasts = settles setup past c place j x None (parts_of setup past c lasts) at job.asked (goes_or_ends j x None so f);
        so = tt;
        leaves = (at_stage j x.stage, job_goes c.jobs n place j found at x.stage, refl, refl, (f refl).end, (f refl).fewer);
        fewer = fewer_left c n place j x None found at lasts.numbered job.trying f;
        id = refl;
        others = λ i other has. settled_keeps c place j x None i at other has;
      }
  told_step j place x (Some r) job found at so f =
      record {
        lasts = settles setup past c place j x (Some r) (parts_of setup past c lasts) at job.asked (goes_or_ends j x (Some r) so f);
        so = so;
        leaves = (job_gone c.jobs n place c.started j x.stage found at lasts.numbered, refl, refl, refl);
        fewer = fewer_left c n place j x (Some r) found at lasts.numbered job.trying f;
        id = refl;
        others = λ i other has. settled_keeps c place j x (Some r) i at other has;
      }

  abbrev working : Working → Option Working
  working w = Some w

  pub work_right : (place : ℕ) (j : Job) (w : Working) → job_place c.jobs n ≡ Some place → slice_get c.jobs place ≡ Some j
      → Makes s t d e (job_call c.assigned j now) (λ a. worked c place j (job_step j now a) ≡ Some w) → StepsRight setup past c n j rose w
  work_right place j w found at m =
      let job = All-found (IsJobOver setup past) c.jobs place j lasts.jobs at in
      let x = makes_some s t d e (job_call c.assigned j now) (job_step j now) (λ o. worked c place j o ≡ Some w) (λ f. none-some w f) m in
      let so = step_so setup past k s t d e j.asked now job.job.within old is_history are_files c.assigned j.stage x.0 job.job.at job.backed job.trying x.1 in
      subst (λ (v : Working). StepsRight setup past c n j rose v) (same_Some _ w x.2)
      (told_step j place x.0 x.0.did.status job found at so (falls_made j.asked j.stage x.0 job.trying x.1))
