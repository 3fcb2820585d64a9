-- What a controller answers over a past, and how a commit begins and ends.
use Rattle.std.specs.Prelude.{◌≡◌, ℕ, ◌<◌, ◌≤◌, ◌+◌, List, [], ◌∷◌, ◌++◌, length, true, slice_get, slice_set, Option, Some, None}
use Rattle.rt_base.specs.declared.numbers.Moment.{Moment}
use Rattle.rt_model.specs.declared.job_step.JobStep.{JobStep}
use Rattle.rt_model.specs.declared.machine_state.MachineState.TheVariants.{CommitterUploading, Committing}
use Rattle.rt_model.specs.declared.reply.FailCause.{FailCause}
use Rattle.rt_model.specs.declared.reply.FailCause.TheVariants as cause
use Rattle.rt_model.specs.declared.reply.Reply.{Reply}
use Rattle.rt_model.specs.declared.reply.ReplyStatus.{ReplyStatus}
use Rattle.rt_model.specs.declared.reply.ReplyStatus.TheVariants as status
use Rattle.rt_model.specs.declared.request.Request.{Request}
use Rattle.rt_model.specs.declared.request.RequestKind.TheVariants as kind
use Rattle.rt_model.specs.declared.setup.Setup.{Setup}
use Rattle.rt_model.specs.Completion.{goes}
use Rattle.rt_model.specs.Messages.{asked_of}
use Rattle.rt_store.specs.Meaning.{Told}
use Rattle.rt_past.specs.IsPast.{IsPast}
use Rattle.rt_past.specs.Past.{Past, Grows, with_files, with_history}
use Rattle.rt_past.specs.Replies.{IsReply}
use Rattle.rt_commit.specs.declared.job.Job.{Job}
use Rattle.rt_commit.specs.declared.job.JobStage.TheVariants as stage
use Rattle.rt_commit.specs.Job.{commits}
use Rattle.rt_commit.specs.Lasting.{commit_end}
use Rattle.rt_commit.specs.Laws.{steps_left}
use Rattle.rt_commit.specs.Right.{EndsSo, MetFault}
use Rattle.rt_commit.specs.Told.{ToldDeep}
use Rattle.rt_controller.specs.declared.handled.Handled.TheVariants as handled
use Rattle.rt_controller.specs.declared.handled.Handled.{Handled}
use Rattle.rt_controller.specs.declared.segment_machine.SegmentMachine.{SegmentMachine}
use Rattle.rt_controller.specs.Answers.{Handling, read_write}
use Rattle.rt_controller.specs.Controller.{Controlling, machine_place, with_machine}
use Rattle.rt_controller.specs.Lasting.{IsControllerOver}
use Rattle.rt_controller.specs.Working.{job_place}

-- ---- answers

-- an answer that is given at once is right; one that ends a job comes later
abbrev pub IsHandled : Past → Handled → Type 0
IsHandled past (handled.Reply reply) = IsReply past reply
IsHandled past (handled.Job number) = Unit {0}

-- an answer with which a job ends is right
abbrev pub IsReplied : Past → Option Reply → Type 0
IsReplied past None = Unit {0}
IsReplied past (Some reply) = IsReply past reply

-- causes that are never answered in a right past
abbrev pub IsPossible : FailCause → Type 0
IsPossible (cause.WrongState s) = Unit {0}
IsPossible (cause.WrongOffset x o) = Unit {0}
IsPossible (cause.NotCommitter i) = Unit {0}
IsPossible cause.NoSegment = Unit {0}
IsPossible (cause.VersionChanged expected found) = Unit {0}
IsPossible cause.StoreFault = Unit {0}
IsPossible (cause.BadUpload wanted found) = ⊥
IsPossible (cause.IdealChanged versions) = Unit {0}
IsPossible cause.NotReplica = ⊥

abbrev pub IsPossibleStatus : ReplyStatus → Type 0
IsPossibleStatus (status.Failed because) = IsPossible because
IsPossibleStatus (status.Keep seen) = Unit {0}
IsPossibleStatus (status.CommitSuccess seen) = Unit {0}
IsPossibleStatus (status.UploadSuccess path) = Unit {0}
IsPossibleStatus status.Hold = Unit {0}
IsPossibleStatus (status.CatchUp offset) = Unit {0}
IsPossibleStatus status.Discard = Unit {0}
IsPossibleStatus (status.Commit offset) = Unit {0}
IsPossibleStatus status.NotLeader = Unit {0}
IsPossibleStatus status.CommitContinue = Unit {0}
IsPossibleStatus status.Processed = Unit {0}

abbrev pub IsPossiblyHandled : Handled → Type 0
IsPossiblyHandled (handled.Reply reply) = IsPossibleStatus reply.status
IsPossiblyHandled (handled.Job number) = Unit {0}

-- ---- the job of a number

abbrev pub job_at : List Job → Option ℕ → Option Job
job_at js None = None
job_at js (Some place) = slice_get js place

abbrev pub job_of : Controlling → ℕ → Option Job
job_of c n = job_at c.jobs (job_place c.jobs n)

-- the steps that it has left at most
abbrev pub left_in : Option Job → ℕ
left_in None = 0
left_in (Some j) = steps_left j.stage

abbrev pub left_of : Controlling → ℕ → ℕ
left_of c n = left_in (job_of c n)

-- what a step leaves of its job: without a reply it goes on, for the same request, up to the same end and with fewer steps left;
-- with one it is gone, and the reply is for its request
abbrev pub LeavesJob : Job → Option Reply → Option Job → Type 0
LeavesJob j None o =
    (k : Job) × (o ≡ Some k) × (k.number ≡ j.number) × (k.asked ≡ j.asked) × (commit_end k.stage ≡ commit_end j.stage)
    × (steps_left k.stage < steps_left j.stage)
LeavesJob j (Some reply) o =
    (o ≡ None) × (reply.number ≡ j.asked.number) × (reply.partition ≡ j.asked.partition) × (reply.sequence ≡ j.asked.sequence)

-- ---- a call, over a past that is all that the stores told

-- what a request leaves, beside what the controller answered
pub record HandlesOver (setup : Setup) (past : Past) (u : Told) (e : ToldDeep) (c new : Controlling) (what : Handled) : Type 0 where
  pub written : u.writes ≡ past.history
  pub grows : Grows past (with_files past e.files)
  pub right : IsPast setup (with_files past e.files)
  pub over : IsControllerOver setup (with_files past e.files) new
  pub answer : IsHandled (with_files past e.files) what
  pub possible : IsPossiblyHandled what
  pub stay : (m : ℕ) (k : Job) → job_of c m ≡ Some k → job_of new m ≡ Some k
  pub id : new.id ≡ c.id

-- what a step of the job of a number leaves, beside what it did
pub record WorksOver (setup : Setup) (past : Past) (t u : Told) (d e : ToldDeep) (c new : Controlling) (n : ℕ) (step : JobStep) : Type 0 where
  pub files : e.files ≡ past.files
  pub grows : Grows past (with_history past u.writes)
  pub right : IsPast setup (with_history past u.writes)
  pub few : length u.writes ≤ length past.history + 1
  pub over : IsControllerOver setup (with_history past u.writes) new
  pub reply : IsReplied (with_history past u.writes) step.reply
  pub job : Job
  pub open_job : job_of c n ≡ Some job
  pub ends :
      EndsSo u.writes job.asked.partition job.asked.sequence (MetFault t u d e) (commits job.stage) step.step step.reply
  pub leaves : LeavesJob job step.reply (job_of new n)
  pub fewer : left_of new n < left_of c n
  pub stay : (m : ℕ) (k : Job) → (m ≡ n → ⊥) → job_of c m ≡ Some k → job_of new m ≡ Some k
  pub id : new.id ≡ c.id

-- ---- a timely commitEnd

-- the machine at a place waits for this CommitEnd, and it comes before its deadline
pub record IsTimely (c : Controlling) (r : Request) (now : Moment) (path : List ℕ) (place : ℕ) (m : SegmentMachine) : Type 0 where
  pub leads : c.leads ≡ true
  pub found : machine_place c.machines r.partition r.sequence ≡ Some place
  pub there : slice_get c.machines place ≡ Some m
  pub uploading : m.machine.state ≡ CommitterUploading
  pub winner : r.number.instance ≡ m.machine.winner
  pub offset : r.offset ≡ m.machine.offset
  pub names : r.kind ≡ kind.CommitEnd path
  pub time : now.0 ≤ m.machine.deadline.0

-- the job that then commits the segment
abbrev pub commit_job : Controlling → Request → List ℕ → SegmentMachine → Job
commit_job c r path m =
    record {
      number = c.started;
      asked = asked_of r;
      stage = stage.Check (read_write r m.machine.seen) m.machine.offset path;
    }

-- it starts, and the segment's machine is COMMITTING
abbrev pub commit_started : Controlling → Request → List ℕ → ℕ → SegmentMachine → Handling
commit_started c r path place m =
    record {
      controller =
          record c {
            machines = slice_set c.machines place (with_machine m (goes m.machine Committing));
            jobs = c.jobs ++ commit_job c r path m ∷ [];
            started = c.started + 1;
          };
      handled = handled.Job c.started;
    }
