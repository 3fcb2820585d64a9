-- Where a segment's node is found to be absent, which alone is answered FAILED 4.
use Rattle.std.specs.Prelude.{◌≡◌, ◌<◌, ℕ, true, Some, None, IsSome}
use Rattle.rt_base.specs.Faults.{fault_of}
use Rattle.rt_base.specs.declared.fault.Fault.TheVariants.{Nothing}
use Rattle.rt_base.specs.declared.limits.TheConstants.{LAST_NUMBER}
use Rattle.rt_base.specs.declared.numbers.Partition.{Partition}
use Rattle.rt_base.specs.declared.numbers.Sequence.{Sequence}
use Rattle.rt_commit.specs.Assignment.{is_replica}
use Rattle.rt_controller.specs.Answers.{ask_in}
use Rattle.rt_controller.specs.Controller.{Controlling, machine_place}
use Rattle.rt_commit.specs.declared.job.JobStage.{JobStage}
use Rattle.rt_commit.specs.declared.job.JobStage.TheVariants as stage
use Rattle.rt_events.specs.declared.outcome.Outcome.{Outcome}
use Rattle.rt_events.specs.declared.outcome.Outcome.TheVariants as told
use Rattle.rt_model.specs.History.{value_of}
use Rattle.rt_model.specs.declared.job_step.JobStep.{JobStep}
use Rattle.rt_model.specs.declared.node.Key.TheVariants as key
use Rattle.rt_model.specs.declared.reply.FailCause.TheVariants as cause
use Rattle.rt_model.specs.declared.reply.Reply.{Reply}
use Rattle.rt_model.specs.declared.reply.ReplyStatus.{ReplyStatus}
use Rattle.rt_model.specs.declared.reply.ReplyStatus.TheVariants as status
use Rattle.rt_model.specs.declared.request.Request.{Request}
use Rattle.rt_store.specs.Meaning.{Told}

-- FAILED 4
abbrev pub IsNoSegment : ReplyStatus → Type 0
IsNoSegment s = s ≡ status.Failed cause.NoSegment

-- the next call of the store meets no fault, and the segment has no node
pub record FindsNone (store : Told) (p : Partition) (s : Sequence) : Type 0 where
  pub faultless : fault_of store.faults.plan ≡ Nothing
  pub none : value_of store.writes (key.Meta p s) ≡ None

-- ---- a request

-- the controller reads the segment's node: it believes that it leads, what is asked is no upload, its sender is assigned to
-- the partition, another segment can come after this one, and the segment has no machine
pub record ReadsNode (c : Controlling) (q : Request) : Type 0 where
  pub leads : c.leads ≡ true
  pub asks : IsSome (ask_in q.offset q.kind)
  pub assigned : is_replica c.assigned q.partition q.number.instance ≡ true
  pub followed : q.sequence.0 < LAST_NUMBER
  pub alone : machine_place c.machines q.partition q.sequence ≡ None

abbrev pub RepliesNoSegment : Outcome → Type 0
RepliesNoSegment outcome = (n : ℕ) × (r : Reply) × (outcome ≡ told.Replied n r) × IsNoSegment r.status

-- ---- a step of a job

-- the segment's node is to become Done
abbrev pub SetsDone : JobStage → Type 0
SetsDone (stage.Check from end path) = ⊥
SetsDone (stage.Done from commit) = Unit {0}
SetsDone (stage.Next done) = ⊥
SetsDone (stage.IdealRead w found) = ⊥
SetsDone (stage.IdealSet w found ideal) = ⊥
SetsDone stage.Ended = ⊥

abbrev pub EndsNoSegment : JobStep → Type 0
EndsNoSegment step = (r : Reply) × (step.reply ≡ Some r) × IsNoSegment r.status
