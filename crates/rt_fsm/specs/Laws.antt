-- What holds of every life of a machine, in the words of the protocol.
use Rattle.std.specs.Prelude.{◌≡◌, ◌≤◌, ◌<◌, ℕ, Bool, true, false, List, Some, None, Option, All, Any, Contains, count_by}
use Rattle.rt_base.specs.declared.numbers.Instance.{Instance}
use Rattle.rt_base.specs.declared.numbers.Offset.{Offset}
use Rattle.rt_base.specs.declared.numbers.Moment.{Moment}
use Rattle.rt_model.specs.declared.machine_state.MachineState.{MachineState}
use Rattle.rt_model.specs.declared.machine_state.MachineState.TheVariants.{PartialConsuming, Holding, CommitterDecided, CommitterNotified, CommitterUploading, Committing, Committed, Aborted}
use Rattle.rt_model.specs.declared.reporter.Reporter.{Reporter}
use Rattle.rt_model.specs.declared.completion.Ask.{Ask}
use Rattle.rt_model.specs.declared.completion.Ask.TheVariants.{Consumed, CommitStart, CommitEnd, Stopped, Extend}
use Rattle.rt_model.specs.declared.completion.Said.{Said}
use Rattle.rt_model.specs.declared.completion.Said.TheVariants.{Hold, CatchUp, Commit, CommitContinue, Processed, Failed}
use Rattle.rt_model.specs.declared.completion.Reaction.{Reaction}
use Rattle.rt_model.specs.declared.completion.Reaction.TheVariants.{Answer, StartCommit, StartOffline}
use Rattle.rt_model.specs.Completion.{Completion, IsBeforePick, goes, react}
use Rattle.rt_fsm.specs.Life.{Message, Step, machine_after}

-- a committer is picked, and the machine hasn't ended
abbrev pub HasPick : MachineState → Type 0
HasPick PartialConsuming = ⊥
HasPick Holding = ⊥
HasPick CommitterDecided = Unit {0}
HasPick CommitterNotified = Unit {0}
HasPick CommitterUploading = Unit {0}
HasPick Committing = Unit {0}
HasPick Committed = ⊥
HasPick Aborted = ⊥

-- a committer was picked
abbrev pub IsAfterPick : MachineState → Type 0
IsAfterPick PartialConsuming = ⊥
IsAfterPick Holding = ⊥
IsAfterPick CommitterDecided = Unit {0}
IsAfterPick CommitterNotified = Unit {0}
IsAfterPick CommitterUploading = Unit {0}
IsAfterPick Committing = Unit {0}
IsAfterPick Committed = Unit {0}
IsAfterPick Aborted = Unit {0}

-- One committer.

-- what an ask may be answered where `w` commits up to `o`: COMMIT goes to `w` and names `o`, CATCH_UP names `o`,
-- COMMIT_CONTINUE answers the CommitStart of `w` at `o`, and more time is given to `w` alone
abbrev pub SaysFor : Said → Instance → Ask → Instance → Offset → Type 0
SaysFor Hold i ask w o = Unit {0}
SaysFor (CatchUp x) i ask w o = x ≡ o
SaysFor (Commit x) i ask w o = (i ≡ w) × (x ≡ o)
SaysFor CommitContinue i ask w o = (i ≡ w) × (ask ≡ CommitStart o)
SaysFor Processed i ask w o = i ≡ w
SaysFor (Failed cause) i ask w o = Unit {0}

-- a commit job starts at the CommitEnd of `w` at `o`, and ends the segment at `o`
abbrev pub ReactsFor : Reaction → Instance → Ask → Instance → Offset → Type 0
ReactsFor (Answer said) i ask w o = SaysFor said i ask w o
ReactsFor (StartCommit x) i ask w o = (i ≡ w) × (x ≡ o) × (ask ≡ CommitEnd o)
ReactsFor StartOffline i ask w o = Unit {0}

abbrev pub IsFor : Instance → Offset → Step → Type 0
IsFor w o s = ReactsFor s.reaction s.message.sender s.message.ask w o

abbrev pub HasOneCommitter : List Step → Type 0
HasOneCommitter ss = (w : Instance) × (o : Offset) × All (IsFor w o) ss

-- any two COMMIT answers go to one instance and name one offset
abbrev pub NamesTheSame : Reaction → Instance → Reaction → Instance → Type 0
NamesTheSame r i q j = (x y : Offset) → r ≡ Answer (Commit x) → q ≡ Answer (Commit y) → (i ≡ j) × (x ≡ y)

abbrev pub CommitsAgree : List Step → Type 0
CommitsAgree ss = All (λ s. All (λ t. NamesTheSame s.reaction s.message.sender t.reaction t.message.sender) ss) ss

-- The largest note.

abbrev pub IsAtMost : Option Offset → Offset → Type 0
IsAtMost None o = Unit {0}
IsAtMost (Some x) o = x.0 ≤ o.0

-- `w` noted `o`, and nobody noted more
pub record IsLargestNote (w : Instance) (o : Offset) (rs : List Reporter) : Type 0 where
  pub noted : Any (λ r. (r.instance ≡ w) × (r.note ≡ Some o)) rs
  pub largest : All (λ r. IsAtMost r.note o) rs

-- the step at which `w` is picked, to commit up to `o`
pub record IsPickOf (w : Instance) (o : Offset) (s : Step) : Type 0 where
  pub before : IsBeforePick s.before.state
  pub after : HasPick s.after.state
  pub winner : s.after.winner ≡ w
  pub offset : s.after.offset ≡ o
  pub largest : IsLargestNote w o s.after.reporters

-- a COMMIT, a COMMIT_CONTINUE and a commit job are for the replica and the offset of a pick
abbrev pub SaysOfAPick : Said → Instance → Ask → List Step → Type 0
SaysOfAPick Hold i ask ss = Unit {0}
SaysOfAPick (CatchUp x) i ask ss = Unit {0}
SaysOfAPick (Commit x) i ask ss = Any (IsPickOf i x) ss
SaysOfAPick CommitContinue i ask ss = (x : Offset) × (ask ≡ CommitStart x) × Any (IsPickOf i x) ss
SaysOfAPick Processed i ask ss = Unit {0}
SaysOfAPick (Failed cause) i ask ss = Unit {0}

abbrev pub IsOfAPick : Reaction → Instance → Ask → List Step → Type 0
IsOfAPick (Answer said) i ask ss = SaysOfAPick said i ask ss
IsOfAPick (StartCommit x) i ask ss = Any (IsPickOf i x) ss
IsOfAPick StartOffline i ask ss = Unit {0}

abbrev pub CommitsThePick : List Step → Type 0
CommitsThePick ss = All (λ s. IsOfAPick s.reaction s.message.sender s.message.ask ss) ss

abbrev pub ComeFrom : List Instance → List Message → Type 0
ComeFrom replicas messages = All (λ message. Contains replicas message.sender) messages

-- The deadline.

-- a commit job starts at the deadline or before it
abbrev pub StartsInTime : Reaction → Moment → Moment → Type 0
StartsInTime (Answer said) now deadline = Unit {0}
StartsInTime (StartCommit x) now deadline = now.0 ≤ deadline.0
StartsInTime StartOffline now deadline = Unit {0}

abbrev pub HasNoLateJob : List Step → Type 0
HasNoLateJob ss = All (λ s. StartsInTime s.reaction s.message.now s.before.deadline) ss

-- Exclusion.

-- the ask reports no offset past the segment's start
abbrev pub IsNoReport : ℕ → Ask → Type 0
IsNoReport start (Consumed x reason) = x.0 ≤ start
IsNoReport start (CommitStart x) = Unit {0}
IsNoReport start (CommitEnd x) = Unit {0}
IsNoReport start Stopped = Unit {0}
IsNoReport start (Extend millis) = Unit {0}

-- the message is no Consumed of `i` at an offset past the segment's start
abbrev pub IsNoReportOf : ℕ → Instance → Message → Type 0
IsNoReportOf start i message = message.sender ≡ i → IsNoReport start message.ask

-- where `i` has stopped before a pick, and hasn't consumed past the segment's start again, it isn't the committer
abbrev pub StaysOut : Completion → Instance → Moment → List Message → Type 0
StaysOut m i now later_messages =
    IsBeforePick m.state → All (IsNoReportOf m.seen.meta.start.0 i) later_messages
    → HasPick (machine_after (react m i Stopped now).1 later_messages).state
    → (machine_after (react m i Stopped now).1 later_messages).winner ≡ i → ⊥

-- The job.

abbrev pub is_commit_job : Reaction → Bool
is_commit_job (Answer said) = false
is_commit_job (StartCommit x) = true
is_commit_job StartOffline = false

abbrev pub HasOneJobAtMost : List Step → Type 0
HasOneJobAtMost ss = count_by (λ s. is_commit_job s.reaction) ss ≤ 1

-- The offsets.

-- past the segment's start, and at most the limit
abbrev pub IsWithin : Offset → ℕ → Offset → Type 0
IsWithin start limit x = (start.0 < x.0) × (x.0 ≤ limit)

abbrev pub IsNoteWithin : Offset → ℕ → Option Offset → Type 0
IsNoteWithin start limit None = Unit {0}
IsNoteWithin start limit (Some x) = IsWithin start limit x

pub record HasOffsetsWithin (limit : ℕ) (m : Completion) : Type 0 where
  pub notes : All (λ r. IsNoteWithin m.seen.meta.start limit r.note) m.reporters
  pub offset : IsAfterPick m.state → IsWithin m.seen.meta.start limit m.offset

-- an ask reports no offset above the limit
abbrev pub ReportsAtMost : ℕ → Ask → Type 0
ReportsAtMost limit (Consumed x reason) = x.0 ≤ limit
ReportsAtMost limit (CommitStart x) = Unit {0}
ReportsAtMost limit (CommitEnd x) = Unit {0}
ReportsAtMost limit Stopped = Unit {0}
ReportsAtMost limit (Extend millis) = Unit {0}

abbrev pub ReportAtMost : ℕ → List Message → Type 0
ReportAtMost limit messages = All (λ message. ReportsAtMost limit message.ask) messages

-- A timely CommitEnd.

-- where the committer uploads, its CommitEnd at its offset, up to the deadline, starts the commit job
abbrev pub StartsItsJob : Completion → Moment → Type 0
StartsItsJob m now =
    m.state ≡ CommitterUploading → now.0 ≤ m.deadline.0
    → react m m.winner (CommitEnd m.offset) now ≡ (StartCommit m.offset, goes m Committing)

-- The converse.

-- a commit job up to `x` starts at the CommitEnd of the committer that uploads, at its offset, which is past the segment's start, and up
-- to the deadline; and the machine is COMMITTING then
pub record IsItsCommit (m : Completion) (i : Instance) (ask : Ask) (now : Moment) (x : Offset) (n : Completion) : Type 0 where
  pub uploading : m.state ≡ CommitterUploading
  pub winner : i ≡ m.winner
  pub offset : x ≡ m.offset
  pub asks : ask ≡ CommitEnd m.offset
  pub past : m.seen.meta.start.0 < m.offset.0
  pub time : now.0 ≤ m.deadline.0
  pub after : n ≡ goes m Committing

abbrev pub StartsAlone : Completion → Instance → Ask → Moment → Reaction → Completion → Type 0
StartsAlone m i ask now (Answer said) n = Unit {0}
StartsAlone m i ask now (StartCommit x) n = IsItsCommit m i ask now x n
StartsAlone m i ask now StartOffline n = Unit {0}
