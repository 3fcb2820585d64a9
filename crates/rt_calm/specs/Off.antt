-- Replicas that are put off by the answer to what they ask.
use Rattle.std.specs.Prelude.{◌≡◌, ◌⊎◌, Some}
use Rattle.rt_events.specs.declared.event.Event.{Event}
use Rattle.rt_events.specs.declared.outcome.Outcome.{Outcome}
use Rattle.rt_lists.specs.Members.{Has}
use Rattle.rt_macros.specs.Doing.{Reached}
use Rattle.rt_macros.specs.Outcomes.{delivered_in, ended_in}
use Rattle.rt_macros.specs.declared.outcomes.Delivered.TheVariants as delivered
use Rattle.rt_macros.specs.declared.outcomes.Replied.{Replied}
use Rattle.rt_model.specs.declared.reply.ReplyStatus.{ReplyStatus}
use Rattle.rt_model.specs.declared.reply.ReplyStatus.TheVariants as status
use Rattle.rt_safety.specs.Runs.{happens}
use Rattle.rt_state.specs.declared.state.State.{State}
use Rattle.rt_calm.specs.Again.{IsLeading}

-- HOLD, NOT_LEADER and FAILED: the replica holds, and asks again
abbrev pub IsPutOff : ReplyStatus → Type 0
IsPutOff status.Hold = Unit {0}
IsPutOff status.NotLeader = Unit {0}
IsPutOff (status.Failed cause) = Unit {0}
IsPutOff (status.CatchUp offset) = ⊥
IsPutOff (status.Commit offset) = ⊥
IsPutOff (status.Keep seen) = ⊥
IsPutOff status.Discard = ⊥
IsPutOff status.CommitContinue = ⊥
IsPutOff (status.UploadSuccess path) = ⊥
IsPutOff (status.CommitSuccess seen) = ⊥
IsPutOff status.Processed = ⊥

-- COMMIT_SUCCESS, and PROCESSED: what was asked for is done
abbrev pub IsSuccess : ReplyStatus → Type 0
IsSuccess (status.CommitSuccess seen) = Unit {0}
IsSuccess status.Processed = Unit {0}
IsSuccess status.Hold = ⊥
IsSuccess status.NotLeader = ⊥
IsSuccess (status.Failed cause) = ⊥
IsSuccess (status.CatchUp offset) = ⊥
IsSuccess (status.Commit offset) = ⊥
IsSuccess (status.Keep seen) = ⊥
IsSuccess status.Discard = ⊥
IsSuccess status.CommitContinue = ⊥
IsSuccess (status.UploadSuccess path) = ⊥

-- among the turns is one by which a request was answered so, at once or by a job
pub record IsTold (P : ReplyStatus → Type 0) (v : Reached) : Type 0 where
  pub event : Event
  pub outcome : Outcome
  pub has : Has v.turns (happens event outcome)
  pub answer : Replied
  pub told : (delivered_in outcome ≡ delivered.Replied answer) ⊎ (ended_in outcome ≡ Some answer)
  pub so : P answer.status

-- a replica is put off in these turns
abbrev pub PutsOff : Reached → Type 0
PutsOff v = IsTold IsPutOff v

-- a commit is made in these turns, or a stop processed
abbrev pub Succeeds : Reached → Type 0
Succeeds v = IsTold IsSuccess v

-- a replica is told HOLD in these turns, or NOT_LEADER
abbrev pub IsHeld : Reached → Type 0
IsHeld v = IsTold (λ s. s ≡ status.Hold) v

abbrev pub IsTurnedAway : Reached → Type 0
IsTurnedAway v = IsTold (λ s. s ≡ status.NotLeader) v

-- HOLD, or NOT_LEADER where no controller that is up believed that it leads
abbrev pub Waits : State → Reached → Type 0
Waits w v = IsHeld v ⊎ (IsTurnedAway v × (IsLeading w → ⊥))
