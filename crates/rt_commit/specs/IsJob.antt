-- What a job remembers, of what its store's caller has seen.
use Rattle.std.specs.Prelude.{◌≡◌, ℕ, ◌+◌, ◌<◌, List}
use Rattle.rt_base.specs.declared.limits.TheConstants.{LAST_NUMBER}
use Rattle.rt_base.specs.declared.numbers.Partition.{Partition}
use Rattle.rt_base.specs.declared.numbers.Sequence.{Sequence}
use Rattle.rt_lists.specs.Members.{Has}
use Rattle.rt_model.specs.declared.asked.Asked.{Asked}
use Rattle.rt_model.specs.declared.ideal_state.IdealState.{IdealState}
use Rattle.rt_model.specs.declared.node.Key.TheVariants as key
use Rattle.rt_model.specs.declared.node.Node.TheVariants as node
use Rattle.rt_model.specs.declared.node.Seen.{Seen}
use Rattle.rt_model.specs.Metadata.{IsOpen, IsDone, IsCreated}
use Rattle.rt_model.specs.Starting.{Starting}
use Rattle.rt_znodes.specs.Znodes.{meta_in}
use Rattle.rt_commit.specs.declared.job.Job.{Job}
use Rattle.rt_commit.specs.declared.job.JobStage.TheVariants as stage
use Rattle.rt_commit.specs.declared.job.JobStage.{JobStage}
use Rattle.rt_commit.specs.declared.work.Work.TheVariants as work
use Rattle.rt_commit.specs.declared.work.Work.{Work}

-- a write of the segment's node, in progress, was seen
pub record IsRead (seen : List Seen) (p : Partition) (q : Sequence) (w : Seen) : Type 0 where
  pub has : Has seen w
  pub of : w.key ≡ key.Meta p q
  pub consuming : IsOpen w.node

-- the write that made the segment Done was seen
pub record IsSetDone (seen : List Seen) (p : Partition) (q : Sequence) (w : Seen) : Type 0 where
  pub has : Has seen w
  pub of : w.key ≡ key.Meta p q
  pub done : IsDone w.node

-- a commit's segment is Done, and the next one was created
pub record IsNextThere (seen : List Seen) (p : Partition) (q : Sequence) (w : Seen) : Type 0 where
  pub done : IsSetDone seen p q w
  pub next : IsCreated seen p (q.0 + 1)

abbrev pub IsWork : List Seen → Asked → Work → Type 0
IsWork seen a (work.Commit done) = IsNextThere seen a.partition a.sequence done
IsWork seen a work.Offline = Unit {0}

-- a segment in progress is to end past its start
pub record IsCommitting (seen : List Seen) (a : Asked) (from : Seen) (end : ℕ) : Type 0 where
  pub read : IsRead seen a.partition a.sequence from
  pub past : (meta_in from.node).start.0 < end

pub record IsChanging (seen : List Seen) (a : Asked) (w : Work) (ideal : Seen) : Type 0 where
  pub work : IsWork seen a w
  pub has : Has seen ideal
  pub is_ideal : ideal.key ≡ key.Ideal
  pub state : IdealState
  pub is_state : ideal.node ≡ node.Ideal state

-- what a job holds was seen, and what it has written; an unfinished job hasn't ended
abbrev pub IsAt : List Seen → Asked → JobStage → Type 0
IsAt seen a (stage.Check from end path) = IsCommitting seen a from end.0
IsAt seen a (stage.Done from commit) = IsCommitting seen a from commit.end.0
IsAt seen a (stage.Next done) = IsSetDone seen a.partition a.sequence done
IsAt seen a (stage.IdealRead w found) = IsWork seen a w
IsAt seen a (stage.IdealSet w found ideal) = IsChanging seen a w ideal
IsAt seen a stage.Ended = ⊥

-- a job of a partition of the setup
pub record IsJob (s : Starting) (seen : List Seen) (j : Job) : Type 0 where
  pub within : j.asked.partition.0 < s.partitions
  pub small : j.asked.sequence.0 < LAST_NUMBER
  pub at : IsAt seen j.asked j.stage
