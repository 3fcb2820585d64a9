-- A controller: what it is, its machines, and what it becomes as it is told whether it leads and as it crashes.
use Rattle.std.specs.Prelude.{ℕ, Bool, true, false, ◌+◌, ◌==◌, ◌&&◌, if◌then◌else◌, List, [], ◌∷◌, ◌++◌, slice_set, Option, Some, None}
use Rattle.std.specs.List.{position, remove, filter}
use Rattle.rt_base.specs.declared.numbers.ControllerId.{ControllerId}
use Rattle.rt_base.specs.declared.numbers.Partition.{Partition}
use Rattle.rt_base.specs.declared.numbers.Sequence.{Sequence}
use Rattle.rt_model.specs.declared.asked.Asked.{Asked}
use Rattle.rt_model.specs.declared.machine_state.MachineState.{MachineState}
use Rattle.rt_model.specs.declared.machine_state.MachineState.TheVariants.{PartialConsuming, Holding, CommitterDecided, CommitterNotified, CommitterUploading, Committing, Committed, Aborted}
use Rattle.rt_model.specs.declared.reply.Reply.{Reply}
use Rattle.rt_model.specs.declared.reply.ReplyStatus.{ReplyStatus}
use Rattle.rt_model.specs.declared.reply.ReplyStatus.TheVariants as status
use Rattle.rt_model.specs.declared.setup.Setup.{Setup}
use Rattle.rt_model.specs.Completion.{Completion}
use Rattle.rt_commit.specs.declared.job.Job.{Job}
use Rattle.rt_commit.specs.Assignment.{Assigned, assigned_by}
use Rattle.rt_controller.specs.declared.segment_machine.SegmentMachine.{SegmentMachine}

-- what a controller is
pub record Controlling : Type 0 where
  pub id : ControllerId
  -- what it keeps of its setup
  pub assigned : Assigned
  -- whether it believes that it leads
  pub leads : Bool
  pub machines : List SegmentMachine
  -- the unfinished jobs, in the order in which they were started
  pub jobs : List Job
  -- the number of jobs started
  pub started : ℕ

abbrev pub beginning : ControllerId → Setup → Controlling
beginning id setup =
    record { id = id; assigned = assigned_by setup; leads = false; machines = []; jobs = []; started = 0 }

abbrev pub is_committing : MachineState → Bool
is_committing PartialConsuming = false
is_committing Holding = false
is_committing CommitterDecided = false
is_committing CommitterNotified = false
is_committing CommitterUploading = false
is_committing Committing = true
is_committing Committed = false
is_committing Aborted = false

-- without the belief there are no machines but those that are COMMITTING; jobs go on
abbrev pub believing : Controlling → Bool → Controlling
believing c true = record c { leads = true }
believing c false =
    record c { leads = false; machines = filter (λ m. is_committing m.machine.state) c.machines }

-- a crash leaves no machine, no job and no belief; the numbers of jobs go on
abbrev pub crashed : Controlling → Controlling
crashed c = record c { leads = false; machines = []; jobs = [] }

-- ---- answers

abbrev pub reply_to : Asked → ReplyStatus → Reply
reply_to a s = record { number = a.number; partition = a.partition; sequence = a.sequence; status = s }

-- ---- a machine reacts

abbrev pub has_ended : MachineState → Bool
has_ended PartialConsuming = false
has_ended Holding = false
has_ended CommitterDecided = false
has_ended CommitterNotified = false
has_ended CommitterUploading = false
has_ended Committing = false
has_ended Committed = true
has_ended Aborted = true

-- a segment's machine as it is now
abbrev pub with_machine : SegmentMachine → Completion → SegmentMachine
with_machine m machine = record { partition = m.partition; sequence = m.sequence; machine = machine }

-- the machines with one in its place, unless it has ended
abbrev pub replaced : List SegmentMachine → ℕ → SegmentMachine → List SegmentMachine
replaced ms place m =
    if has_ended m.machine.state then remove (slice_set ms place m) place else slice_set ms place m

-- the machines with a new one, unless it has ended
abbrev pub added : List SegmentMachine → SegmentMachine → List SegmentMachine
added ms m = if has_ended m.machine.state then ms else ms ++ m ∷ []

-- ---- a request

abbrev pub is_of : Partition → Sequence → SegmentMachine → Bool
is_of p s m = (m.partition.0 == p.0) && (m.sequence.0 == s.0)

-- the place of the segment's machine
abbrev pub machine_place : List SegmentMachine → Partition → Sequence → Option ℕ
machine_place ms p s = position (is_of p s) ms

-- ---- a step of a job

abbrev pub without_at : List SegmentMachine → Option ℕ → List SegmentMachine
without_at ms None = ms
without_at ms (Some place) = remove ms place

-- a commit job's machine ends with it, and so is removed
abbrev pub without_machine : List SegmentMachine → Asked → Bool → List SegmentMachine
without_machine ms a false = ms
without_machine ms a true = without_at ms (machine_place ms a.partition a.sequence)
