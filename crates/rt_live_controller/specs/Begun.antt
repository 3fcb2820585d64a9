-- How each commit began: its CommitEnd was heard at the machine that waited for it.
use Rattle.std.specs.Prelude.{◌≡◌, ℕ, List, ◌∷◌, ◌++◌, Result}
use Rattle.std.specs.declared.alloc.AllocError.{AllocError}
use Rattle.rt_base.specs.declared.numbers.Moment.{Moment}
use Rattle.rt_base.specs.declared.numbers.Offset.{Offset}
use Rattle.rt_base.specs.declared.numbers.Partition.{Partition}
use Rattle.rt_base.specs.declared.numbers.Sequence.{Sequence}
use Rattle.rt_commit.specs.declared.job.JobStage.{JobStage}
use Rattle.rt_commit.specs.declared.job.JobStage.TheVariants as stage
use Rattle.rt_controller.specs.Right.{IsTimely}
use Rattle.rt_controller.specs.declared.handled.Handled.{Handled}
use Rattle.rt_controller.specs.declared.segment_machine.SegmentMachine.{SegmentMachine}
use Rattle.rt_live_names.specs.Replays.{Replays}
use Rattle.rt_model.specs.declared.asked.Asked.{Asked}
use Rattle.rt_model.specs.declared.node.Key.{Key}
use Rattle.rt_model.specs.declared.node.Key.TheVariants as key
use Rattle.rt_model.specs.declared.node.Node.{Node}
use Rattle.rt_model.specs.declared.node.Node.TheVariants as node
use Rattle.rt_model.specs.declared.request.Request.{Request}
use Rattle.rt_model.specs.declared.seg_meta.SegMeta.{SegMeta}
use Rattle.rt_model.specs.declared.status.Status.{Status}
use Rattle.rt_model.specs.declared.status.Status.TheVariants.{InProgress, Done, Abandoned}
use Rattle.rt_live_controller.specs.ControllerSteps.{ControllerNow}
use Rattle.rt_live_controller.specs.declared.controller_did.ControllerDid.{ControllerDid}
use Rattle.rt_live_controller.specs.declared.controller_did.ControllerDid.TheVariants.{Heard}

-- after what was done earlier the segment's machine waited for its committer's CommitEnd up to this offset, and the one that
-- names this path was heard
pub record WasBegun (Step : ControllerNow → ControllerDid → ControllerNow → Type 0) (first : ControllerNow)
    (did : List ControllerDid) (p : Partition) (q : Sequence) (end : Offset) (path : List ℕ) : Type 0 where
  pub earlier : List ControllerDid
  pub heard : ControllerDid
  pub later : List ControllerDid
  pub whole : did ≡ earlier ++ heard ∷ later
  pub request : Request
  pub now : Moment
  pub result : Result Handled AllocError
  pub told : ℕ
  pub deep_told : ℕ
  pub is : heard ≡ Heard request now result told deep_told
  pub was : ControllerNow
  pub replayed : Replays Step first earlier was
  pub place : ℕ
  pub machine : SegmentMachine
  pub timely : IsTimely was.controller request now path place machine
  pub partition : request.partition ≡ p
  pub sequence : request.sequence ≡ q
  pub offset : request.offset ≡ end

module _ (Was : Partition → Sequence → Offset → List ℕ → Type 0) where
  -- a commit job that hasn't written its Done metadata began so
  abbrev pub HasBegun : Asked → JobStage → Type 0
  HasBegun q (stage.Check from end path) = Was q.partition q.sequence end path
  HasBegun q (stage.Done from commit) = Was q.partition q.sequence commit.end commit.path
  HasBegun q (stage.Next done) = Unit {0}
  HasBegun q (stage.IdealRead w found) = Unit {0}
  HasBegun q (stage.IdealSet w found ideal) = Unit {0}
  HasBegun q stage.Ended = Unit {0}

  -- and so did the job that wrote Done metadata
  abbrev pub HasCommitted : Partition → Sequence → Status → Type 0
  HasCommitted p q InProgress = Unit {0}
  HasCommitted p q (Done commit) = Was p q commit.end commit.path
  HasCommitted p q Abandoned = Unit {0}

  abbrev pub HasMeta : Key → SegMeta → Type 0
  HasMeta (key.Meta p q) m = HasCommitted p q m.status
  HasMeta key.Ideal m = Unit {0}
  HasMeta (key.Boot i) m = Unit {0}

  abbrev pub HasWritten : Key → Node → Type 0
  HasWritten k (node.Meta m) = HasMeta k m
  HasWritten k (node.Ideal state) = Unit {0}
  HasWritten k node.Boot = Unit {0}
  HasWritten k node.Gone = Unit {0}
