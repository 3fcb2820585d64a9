-- What a controller puts, answers and starts, over what the callers of its stores have seen and what it took.
use Rattle.std.specs.Prelude.{◌≡◌, ℕ, true, List, [], ◌∷◌, ◌++◌, All, Option, Some, None}
use Rattle.rt_base.specs.declared.numbers.Moment.{Moment}
use Rattle.rt_model.specs.declared.request.Request.{Request}
use Rattle.rt_model.specs.declared.request.RequestKind.TheVariants as kind
use Rattle.rt_deep.specs.declared.deep_put.DeepPut.{DeepPut}
use Rattle.rt_deep.specs.Meaning as deep_meaning
use Rattle.rt_store.specs.Meaning.{Meaning}
use Rattle.rt_past.specs.Past.{Past}
use Rattle.rt_commit.specs.declared.job.Job.{Job}
use Rattle.rt_commit.specs.Calls.{DeepMeaning}
use Rattle.rt_commit.specs.Job.{commits}
use Rattle.rt_commit.specs.Lasting.{WasSent}
use Rattle.rt_controller.specs.declared.segment_machine.SegmentMachine.{SegmentMachine}
use Rattle.rt_controller.specs.Answers.{Handling}
use Rattle.rt_controller.specs.Controller.{Controlling}
use Rattle.rt_controller.specs.Right.{IsTimely, commit_started}

-- ---- what it puts

-- the file that the request uploads
abbrev pub IsItsUpload : Request → DeepPut → Type 0
IsItsUpload r f = r.kind ≡ kind.Upload f.path f.bytes

-- each file that becomes the caller's own is so
abbrev pub PutsMore : (DeepPut → Type 0) → Option deep_meaning.Own → Option deep_meaning.Own → Type 0
PutsMore P None new = new ≡ None
PutsMore P (Some o) new =
    (more : List DeepPut) × (new ≡ Some (record { numbers = o.numbers; files = o.files ++ more })) × All P more

-- ---- what it sees

-- a view of what the callers of its stores have seen
pub record IsViewOf (view : Past) (t : Meaning) (e : DeepMeaning) : Type 0 where
  pub history : view.history ≡ t.seen
  pub files : view.files ≡ e.seen

-- each job answers a request that was taken
abbrev pub AreTaken : Past → List Job → Type 0
AreTaken view js = All (λ j. WasSent view j.asked) js

-- ---- what it starts

-- a commit job was started
pub record StartsCommit (c new : Controlling) : Type 0 where
  pub job : Job
  pub jobs : new.jobs ≡ c.jobs ++ job ∷ []
  pub committing : commits job.stage ≡ true

-- by the segment's machine, at the CommitEnd for which it waits, up to its deadline
pub record StartsAtMachine (c : Controlling) (r : Request) (now : Moment) (x : Handling) : Type 0 where
  pub path : List ℕ
  pub place : ℕ
  pub machine : SegmentMachine
  pub timely : IsTimely c r now path place machine
  pub started : x ≡ commit_started c r path place machine
