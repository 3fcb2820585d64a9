-- What lasts of a controller, with respect to what has grown so far: the stream, the store's history, the files and the
-- messages. Each part stays true as these grow.
use Rattle.std.specs.Prelude.{◌≡◌, ℕ, ◌<◌, ◌≤◌, ◌==◌, ◌&&◌, Bool, true, List, map, length, All, Option, Some, None}
use Rattle.std.specs.List.{AllPairs, count_by}
use Rattle.rt_base.specs.declared.numbers.Offset.{Offset}
use Rattle.rt_base.specs.declared.numbers.Partition.{Partition}
use Rattle.rt_base.specs.declared.numbers.Sequence.{Sequence}
use Rattle.rt_lists.specs.Members.{Has}
use Rattle.rt_model.specs.declared.machine_state.MachineState.{MachineState}
use Rattle.rt_model.specs.declared.machine_state.MachineState.TheVariants.{PartialConsuming, Holding, CommitterDecided, CommitterNotified, CommitterUploading, Committing, Committed, Aborted}
use Rattle.rt_model.specs.declared.setup.Setup.{Setup}
use Rattle.rt_model.specs.Completion.{Completion, is_at}
use Rattle.rt_assign.specs.Placement.{replicas_of}
use Rattle.rt_stream.specs.Log.{messages_of}
use Rattle.rt_store.specs.Contents.{starting_of}
use Rattle.rt_fsm.specs.Laws.{HasOffsetsWithin}
use Rattle.rt_past.specs.Past.{Past}
use Rattle.rt_past.specs.Segments.{HadEntry}
use Rattle.rt_commit.specs.declared.job.Job.{Job}
use Rattle.rt_commit.specs.declared.job.JobStage.TheVariants as stage
use Rattle.rt_commit.specs.Assignment.{assigned_by}
use Rattle.rt_commit.specs.Job.{commits}
use Rattle.rt_commit.specs.Lasting.{IsJobOver, commit_end}
use Rattle.rt_controller.specs.declared.segment_machine.SegmentMachine.{SegmentMachine}
use Rattle.rt_controller.specs.Controller.{Controlling, is_of}
use Rattle.rt_controller.specs.IsController.{IsMachine}

-- ---- a machine

-- what it read was written, in progress, of a segment that had an entry; each note and the offset at which the committer
-- was picked are past the segment's start and within the log; and its reporters are the segment's replicas
pub record IsMachineOver (setup : Setup) (past : Past) (m : SegmentMachine) : Type 0 where
  pub machine : IsMachine (starting_of setup) past.history m
  pub entered : HadEntry past.history m.partition m.sequence
  pub offsets : HasOffsetsWithin (length (messages_of past.log m.partition)) m.machine
  pub replicas :
      map (λ r. r.instance) m.machine.reporters ≡ replicas_of m.partition setup.table.replication setup.servers

-- ---- machines and jobs

-- the offset up to which a COMMITTING machine's segment is committed
abbrev pub end_at : MachineState → Offset → Option Offset
end_at PartialConsuming x = None
end_at Holding x = None
end_at CommitterDecided x = None
end_at CommitterNotified x = None
end_at CommitterUploading x = None
end_at Committing x = Some x
end_at Committed x = None
end_at Aborted x = None

abbrev pub machine_end : Completion → Option Offset
machine_end m = end_at m.state m.offset

-- whether this segment is committed up to this offset
abbrev pub ends_at : Partition → Sequence → Offset → Partition → Sequence → Option Offset → Bool
ends_at p s x q t end = ((q.0 == p.0) && (t.0 == s.0)) && is_at x.0 end

abbrev pub job_ends_at : Partition → Sequence → Offset → Job → Bool
job_ends_at p s x j = ends_at p s x j.asked.partition j.asked.sequence (commit_end j.stage)

abbrev pub machine_ends_at : Partition → Sequence → Offset → SegmentMachine → Bool
machine_ends_at p s x m = ends_at p s x m.partition m.sequence (machine_end m.machine)

-- a segment has one machine at most
abbrev pub HaveOneMachine : List SegmentMachine → Type 0
HaveOneMachine ms = (p : Partition) (s : Sequence) → count_by (is_of p s) ms ≤ 1

-- there are as many unfinished commit jobs of a segment, up to an offset, as COMMITTING machines
abbrev pub ArePaired : List SegmentMachine → List Job → Type 0
ArePaired ms js =
    (p : Partition) (s : Sequence) (x : Offset) → count_by (job_ends_at p s x) js ≡ count_by (machine_ends_at p s x) ms

-- the jobs have their numbers in the order in which they were started
pub record AreNumbered (js : List Job) (started : ℕ) : Type 0 where
  pub below : All (λ j. j.number < started) js
  pub rising : AllPairs (λ j k. j.number < k.number) js

-- ---- a controller

pub record IsControllerOver (setup : Setup) (past : Past) (c : Controlling) : Type 0 where
  pub assigned : c.assigned ≡ assigned_by setup
  pub machines : All (IsMachineOver setup past) c.machines
  pub jobs : All (IsJobOver setup past) c.jobs
  pub one : HaveOneMachine c.machines
  pub paired : ArePaired c.machines c.jobs
  pub numbered : AreNumbered c.jobs c.started

-- ---- a COMMITTING machine and its job

-- the job commits the machine's segment, up to its offset
pub record Commits (j : Job) (m : SegmentMachine) : Type 0 where
  pub partition : j.asked.partition ≡ m.partition
  pub sequence : j.asked.sequence ≡ m.sequence
  pub end : commit_end j.stage ≡ Some m.machine.offset

-- no other commit job of the job's segment is open
abbrev pub IsOnlyJob : List Job → Job → Type 0
IsOnlyJob js j =
    (k : Job) → Has js k → commits k.stage ≡ true → k.asked.partition ≡ j.asked.partition
    → k.asked.sequence ≡ j.asked.sequence → k ≡ j

pub record HasOneJob (js : List Job) (m : SegmentMachine) : Type 0 where
  pub job : Job
  pub has : Has js job
  pub its : Commits job m
  pub only : IsOnlyJob js job

pub record HasItsMachine (ms : List SegmentMachine) (j : Job) : Type 0 where
  pub machine : SegmentMachine
  pub has : Has ms machine
  pub committing : machine.machine.state ≡ Committing
  pub its : Commits j machine
