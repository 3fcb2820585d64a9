-- What is true of the whole life of a job.
use Rattle.std.specs.Prelude.{◌≡◌, ℕ, ◌<◌, ◌-◌, ◌*◌, ◌⊎◌, true, false, List, [], ◌∷◌, ◌++◌, length, Option, Some, None, Ok, Err}
use Rattle.rt_base.specs.declared.header.Header.{Header}
use Rattle.rt_base.specs.declared.numbers.Moment.{Moment}
use Rattle.rt_base.specs.declared.numbers.Offset.{Offset}
use Rattle.rt_lists.specs.Members.{Has}
use Rattle.rt_model.specs.declared.asked.Asked.{Asked}
use Rattle.rt_model.specs.declared.commit.Commit.{Commit}
use Rattle.rt_model.specs.declared.job_step.StepName.{StepName}
use Rattle.rt_model.specs.declared.job_step.StepName.TheVariants as name
use Rattle.rt_model.specs.declared.job_step.StepOutcome.{StepOutcome}
use Rattle.rt_model.specs.declared.job_step.StepOutcome.TheVariants as outcome
use Rattle.rt_model.specs.declared.node.Seen.{Seen}
use Rattle.rt_model.specs.declared.reply.FailCause.TheVariants as cause
use Rattle.rt_model.specs.declared.reply.ReplyStatus.{ReplyStatus}
use Rattle.rt_model.specs.declared.reply.ReplyStatus.TheVariants as status
use Rattle.rt_model.specs.declared.seg_meta.SeenMeta.{SeenMeta}
use Rattle.rt_model.specs.Entries.{entries_by}
use Rattle.rt_past.specs.Files.{header_named, header_in}
use Rattle.rt_store.specs.declared.refused.StoreRefused.{StoreRefused}
use Rattle.rt_store.specs.declared.refused.StoreRefused.TheVariants.{NoNode, VersionChanged}
use Rattle.rt_znodes.specs.Znodes.{meta_in, seen_meta_of}
use Rattle.rt_commit.specs.declared.job.JobStage.TheVariants as stage
use Rattle.rt_commit.specs.declared.job.JobStage.{JobStage}
use Rattle.rt_commit.specs.declared.work.Work.TheVariants as work
use Rattle.rt_commit.specs.declared.work.Work.{Work}
use Rattle.rt_commit.specs.Calls.{Answer, got, read, set, created}
use Rattle.rt_commit.specs.Job.{Stepping, changes, done_write, step_at}

-- a step as it is made: when, and with which answer of its call
pub record Move : Type 0 where
  pub now : Moment
  pub answer : Answer

-- from one stage the job makes these steps, one after the other, and then stands at another stage, not ended
abbrev pub GoesOn : Asked → JobStage → List Move → JobStage → Type 0
GoesOn q from [] to = from ≡ to
GoesOn q from (m ∷ ms) to =
    (x : Stepping) × (step_at q m.now from m.answer ≡ Some x) × (x.did.status ≡ None) × GoesOn q x.stage ms to

-- a job that hasn't ended has found fewer than ten other versions
abbrev pub IsTrying : JobStage → Type 0
IsTrying (stage.Check from end path) = Unit {0}
IsTrying (stage.Done from commit) = Unit {0}
IsTrying (stage.Next done) = Unit {0}
IsTrying (stage.IdealRead w found) = length found < 10
IsTrying (stage.IdealSet w found ideal) = length found < 10
IsTrying stage.Ended = ⊥

-- how many steps it has left at most
abbrev pub steps_left : JobStage → ℕ
steps_left (stage.Check from end path) = 23
steps_left (stage.Done from commit) = 22
steps_left (stage.Next done) = 21
steps_left (stage.IdealRead w found) = 2 * (10 - length found)
steps_left (stage.IdealSet w found ideal) = 2 * (10 - length found) - 1
steps_left stage.Ended = 0

-- ---- what a step does

-- the name of the step that a job makes at a stage
abbrev pub IsNamedBy : JobStage → StepName → Type 0
IsNamedBy (stage.Check from end path) n = n ≡ name.Check
IsNamedBy (stage.Done from commit) n = n ≡ name.Done
IsNamedBy (stage.Next done) n = n ≡ name.Next
IsNamedBy (stage.IdealRead w found) n = n ≡ name.IdealRead
IsNamedBy (stage.IdealSet w found ideal) n = n ≡ name.IdealSet
IsNamedBy stage.Ended n = ⊥

-- where a job goes on: from a stage, by what its call answered, after an outcome, to the next stage. From `check` it goes on with the
-- commit of the file that was read, whose header is the segment's up to the wanted end; from `done` with the write that it has made;
-- from `next` with that write, also where the next segment exists; from `idealRead` with the ideal state that was read, of which it
-- changes something; and from `idealSet`, where another version was found there for the ninth time or before, to read again
abbrev pub MayGoOn : Asked → Moment → JobStage → Answer → StepOutcome → JobStage → Type 0
MayGoOn q now (stage.Check from end path) answer o to =
    (bytes : List ℕ) × (commit : Commit) × (answer ≡ got (Ok bytes)) × (o ≡ outcome.Fine)
    × (commit.end ≡ end) × (commit.path ≡ path)
    × (header_in bytes ≡ Some (header_named q.partition q.sequence (meta_in from.node).start commit))
    × (to ≡ stage.Done from commit)
MayGoOn q now (stage.Done from commit) answer o to =
    (version : ℕ) × (answer ≡ set (Ok version)) × (o ≡ outcome.Fine)
    × (to ≡ stage.Next (done_write from commit now version))
MayGoOn q now (stage.Next done) answer o to =
    ((o ≡ outcome.Fine) ⊎ (o ≡ outcome.Exists)) × (to ≡ stage.IdealRead (work.Commit done) [])
MayGoOn q now (stage.IdealRead w found) answer o to =
    (ideal : Seen) × (answer ≡ read (Ok ideal)) × (changes q w (entries_by ideal.node) ≡ true) × (o ≡ outcome.Fine)
    × (to ≡ stage.IdealSet w found ideal)
MayGoOn q now (stage.IdealSet w found ideal) answer o to =
    (expected version : ℕ) × (answer ≡ set (Err (VersionChanged expected version))) × (o ≡ outcome.Changed expected version)
    × (length found < 9) × (to ≡ stage.IdealRead w (found ++ version ∷ []))
MayGoOn q now stage.Ended answer o to = ⊥

-- a job that has committed answers COMMIT_SUCCESS with the Done metadata that it has written, and one that has turned an instance
-- OFFLINE answers PROCESSED
abbrev pub IsSuccess : Work → ReplyStatus → Type 0
IsSuccess (work.Commit done) r = r ≡ status.CommitSuccess (seen_meta_of done)
IsSuccess work.Offline r = r ≡ status.Processed

-- ---- how a step may end its job

-- a store met a fault
abbrev pub EndsAtFault : StepOutcome → ReplyStatus → Type 0
EndsAtFault o r = (o ≡ outcome.Failed) × (r ≡ status.Failed cause.StoreFault)

-- the file isn't the segment's
abbrev pub EndsAtFile : StepOutcome → ReplyStatus → Type 0
EndsAtFile o r =
    (wanted : Header) × (found : Option Header) × (o ≡ outcome.Bad) × (r ≡ status.Failed (cause.BadUpload wanted found))

-- the segment's node is gone
abbrev pub EndsAtNone : Answer → StepOutcome → ReplyStatus → Type 0
EndsAtNone answer o r = (answer ≡ set (Err NoNode)) × (o ≡ outcome.NoNode) × (r ≡ status.Failed cause.NoSegment)

-- the segment's node has another version than the job knows
abbrev pub EndsAtOther : (StoreRefused → Answer) → Answer → StepOutcome → ReplyStatus → Type 0
EndsAtOther refused answer o r =
    (expected found : ℕ) × (answer ≡ refused (VersionChanged expected found)) × (o ≡ outcome.Changed expected found)
    × (r ≡ status.Failed (cause.VersionChanged expected found))

-- for the tenth time a set of the ideal state found another version: all ten of them are told
abbrev pub IsTenth : List ℕ → Answer → StepOutcome → ReplyStatus → Type 0
IsTenth before answer o r =
    (expected version : ℕ) × (answer ≡ set (Err (VersionChanged expected version))) × (o ≡ outcome.Changed expected version)
    × (length (before ++ version ∷ []) ≡ 10) × (r ≡ status.Failed (cause.IdealChanged (before ++ version ∷ [])))

-- the job succeeds: with a Done write that is gone at `next`, with an ideal state of which it changes nothing at `idealRead`, and with its
-- set of the ideal state
abbrev pub SucceedsGone : Seen → Answer → StepOutcome → ReplyStatus → Type 0
SucceedsGone done answer o r = (answer ≡ created (Err NoNode)) × (o ≡ outcome.Gone) × IsSuccess (work.Commit done) r

abbrev pub SucceedsSame : Asked → Work → Answer → StepOutcome → ReplyStatus → Type 0
SucceedsSame q w answer o r =
    (ideal : Seen) × (answer ≡ read (Ok ideal)) × (changes q w (entries_by ideal.node) ≡ false) × (o ≡ outcome.Same) × IsSuccess w r

abbrev pub SucceedsSet : Work → Answer → StepOutcome → ReplyStatus → Type 0
SucceedsSet w answer o r = (version : ℕ) × (answer ≡ set (Ok version)) × (o ≡ outcome.Fine) × IsSuccess w r

abbrev pub refuses_set : StoreRefused → Answer
refuses_set refused = set (Err refused)

abbrev pub refuses_next : StoreRefused → Answer
refuses_next refused = created (Err refused)

-- the reply with which a step ends the job: from a stage, by what its call answered, with an outcome
abbrev pub Answers : Asked → JobStage → Answer → StepOutcome → ReplyStatus → Type 0
Answers q (stage.Check from end path) answer o r = EndsAtFault o r ⊎ EndsAtFile o r
Answers q (stage.Done from commit) answer o r =
    EndsAtFault o r ⊎ (EndsAtNone answer o r ⊎ EndsAtOther refuses_set answer o r)
Answers q (stage.Next done) answer o r =
    EndsAtFault o r ⊎ (EndsAtOther refuses_next answer o r ⊎ SucceedsGone done answer o r)
Answers q (stage.IdealRead w found) answer o r = EndsAtFault o r ⊎ SucceedsSame q w answer o r
Answers q (stage.IdealSet w found ideal) answer o r =
    EndsAtFault o r ⊎ (IsTenth found answer o r ⊎ SucceedsSet w answer o r)
Answers q stage.Ended answer o r = ⊥

abbrev pub EndsOrGoesOn : Asked → Moment → JobStage → Answer → StepOutcome → Option ReplyStatus → JobStage → Type 0
EndsOrGoesOn q now from answer o None to = MayGoOn q now from answer o to
EndsOrGoesOn q now from answer o (Some r) to = Answers q from answer o r × (to ≡ stage.Ended)

-- what a step tells is that of its stage: it ends the job with the reply of its outcome, or the job goes on as it may after it
abbrev pub Tells : Asked → Moment → JobStage → Answer → Stepping → Type 0
Tells q now from answer x = IsNamedBy from x.did.step × EndsOrGoesOn q now from answer x.did.outcome x.did.status x.stage

-- ---- the Done metadata that a job has written

-- a step among these has written this: it set what the machine had read to the commit of a file, and the store answered the version
pub record HasWritten (from : Seen) (end : Offset) (path : List ℕ) (moves : List Move) (done : Seen) : Type 0 where
  pub move : Move
  pub has : Has moves move
  pub commit : Commit
  pub version : ℕ
  pub answered : move.answer ≡ set (Ok version)
  pub end_is : commit.end ≡ end
  pub path_is : commit.path ≡ path
  pub is_done : done ≡ done_write from commit move.now version

-- a reply of success goes with the job's own Done metadata
abbrev pub IsOwnSuccess : Seen → Offset → List ℕ → List Move → Option ReplyStatus → Type 0
IsOwnSuccess from end path moves o =
    (seen : SeenMeta) → o ≡ Some (status.CommitSuccess seen)
    → (done : Seen) × HasWritten from end path moves done × (seen ≡ seen_meta_of done)
