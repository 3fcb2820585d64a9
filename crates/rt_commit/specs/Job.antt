-- The jobs of a controller: the call that a job's next step makes, and what the step makes of its answer.
use Rattle.std.specs.Prelude.{ℕ, Bool, true, false, ◌==◌, ◌&&◌, nat_lt, if◌then◌else◌, List, [], ◌∷◌, ◌++◌, length, replicate, Option, Some, None, Result, Ok, Err, ◌+◌}
use Rattle.rt_base.specs.declared.header.Header.{Header}
use Rattle.rt_base.specs.declared.numbers.Moment.{Moment}
use Rattle.rt_base.specs.declared.numbers.Offset.{Offset}
use Rattle.rt_model.specs.declared.asked.Asked.{Asked}
use Rattle.rt_model.specs.declared.commit.Commit.{Commit}
use Rattle.rt_model.specs.declared.ideal_state.IdealEntry.{IdealEntry}
use Rattle.rt_model.specs.declared.job_step.StepName.{StepName}
use Rattle.rt_model.specs.declared.job_step.StepName.TheVariants as name
use Rattle.rt_model.specs.declared.job_step.StepOutcome.{StepOutcome}
use Rattle.rt_model.specs.declared.job_step.StepOutcome.TheVariants as outcome
use Rattle.rt_model.specs.declared.node.Key.{Key}
use Rattle.rt_model.specs.declared.node.Key.TheVariants as key
use Rattle.rt_model.specs.declared.node.Node.{Node}
use Rattle.rt_model.specs.declared.node.Node.TheVariants as node
use Rattle.rt_model.specs.declared.node.Seen.{Seen}
use Rattle.rt_model.specs.declared.reply.FailCause.TheVariants as cause
use Rattle.rt_model.specs.declared.reply.ReplyStatus.{ReplyStatus}
use Rattle.rt_model.specs.declared.reply.ReplyStatus.TheVariants as status
use Rattle.rt_model.specs.declared.status.Status.TheVariants.{Done}
use Rattle.rt_model.specs.Entries.{entries_by}
use Rattle.rt_model.specs.Ideal.{next_sequence, commit_step_of, set_offline_of}
use Rattle.rt_meta.specs.Lives.{first_of, done_of}
use Rattle.rt_deep.specs.declared.refused.DeepRefused.{DeepRefused}
use Rattle.rt_deep.specs.declared.refused.DeepRefused.TheVariants as deep
use Rattle.rt_store.specs.declared.refused.StoreRefused.{StoreRefused}
use Rattle.rt_store.specs.declared.refused.StoreRefused.TheVariants.{NoNode, Exists, VersionChanged, Failed, Memory}
use Rattle.rt_past.specs.Files.{header_in}
use Rattle.rt_znodes.specs.Znodes.{meta_in, seen_meta_of, end_in}
use Rattle.rt_commit.specs.declared.job.Job.{Job}
use Rattle.rt_commit.specs.declared.job.JobStage.TheVariants as stage
use Rattle.rt_commit.specs.declared.job.JobStage.{JobStage}
use Rattle.rt_commit.specs.declared.stepped.Stepped.{Stepped}
use Rattle.rt_commit.specs.declared.work.Work.TheVariants as work
use Rattle.rt_commit.specs.declared.work.Work.{Work}
use Rattle.rt_commit.specs.Assignment.{Assigned, replicas_in}
use Rattle.rt_commit.specs.Calls.{Call, calls_nothing, gets, reads, sets, creates, Answer, got, read, set, created}
use Rattle.rt_commit.specs.Changes.{commit_changes, offline_changes}

-- ---- a step's end

-- how far the job is after a step, and what the step did
pub record Stepping : Type 0 where
  pub stage : JobStage
  pub did : Stepped

-- the job goes on at another stage
abbrev pub goes : JobStage → StepName → StepOutcome → Option Stepping
goes s n o = Some (record { stage = s; did = record { step = n; outcome = o; status = None } })

-- the job ends with an answer
abbrev pub ends : StepName → StepOutcome → ReplyStatus → Option Stepping
ends n o reply = Some (record { stage = stage.Ended; did = record { step = n; outcome = o; status = Some reply } })

abbrev pub fails : StepName → Option Stepping
fails n = ends n outcome.Failed (status.Failed cause.StoreFault)

-- ---- check: the file at the path is the segment's, from its start to the offset

abbrev pub is_wanted : Asked → Offset → Offset → Header → Bool
is_wanted asked start end h =
    (h.partition.0 == asked.partition.0) && (h.sequence.0 == asked.sequence.0)
    && (h.range.start.0 == start.0) && (h.range.end.0 == end.0)

-- the header that the job wants; rows and digest are those that were found
abbrev pub wanted : Asked → Offset → Offset → Option Header → Header
wanted asked start end None =
    record {
      partition = asked.partition;
      sequence = asked.sequence;
      range = record { start = start; end = end };
      rows = 0;
      digest = replicate 32 0;
    }
wanted asked start end (Some h) =
    record {
      partition = asked.partition;
      sequence = asked.sequence;
      range = record { start = start; end = end };
      rows = h.rows;
      digest = h.digest;
    }

abbrev pub bad : Asked → Seen → Offset → Option Header → Option Stepping
bad q from end found =
    ends name.Check outcome.Bad
    (status.Failed (cause.BadUpload (wanted q (meta_in from.node).start end found) found))

abbrev pub commit_of : Offset → List ℕ → Header → Commit
commit_of end path h = record { end = end; path = path; digest = h.digest; rows = h.rows }

abbrev pub checked : Asked → Seen → Offset → List ℕ → Option Header → Option Stepping
checked q from end path None = bad q from end None
checked q from end path (Some h) =
    if is_wanted q (meta_in from.node).start end h
    then goes (stage.Done from (commit_of end path h)) name.Check outcome.Fine
    else bad q from end (Some h)

abbrev pub after_get : Asked → Seen → Offset → List ℕ → Result (List ℕ) DeepRefused → Option Stepping
after_get q from end path (Ok bytes) = checked q from end path (header_in bytes)
after_get q from end path (Err deep.Absent) = bad q from end None
after_get q from end path (Err (deep.OtherBytes kept offered)) = fails name.Check
after_get q from end path (Err deep.Failed) = fails name.Check
after_get q from end path (Err deep.Memory) = None

-- ---- done: the metadata becomes Done, at the version that the machine read

abbrev pub done_node : Seen → Commit → Moment → Node
done_node from commit now = node.Meta (done_of (meta_in from.node) commit now)

abbrev pub done_write : Seen → Commit → Moment → ℕ → Seen
done_write from commit now version = record { key = from.key; version = version; node = done_node from commit now }

abbrev pub after_done : Seen → Commit → Moment → Result ℕ StoreRefused → Option Stepping
after_done from commit now (Ok version) =
    goes (stage.Next (done_write from commit now version)) name.Done outcome.Fine
after_done from commit now (Err NoNode) = ends name.Done outcome.NoNode (status.Failed cause.NoSegment)
after_done from commit now (Err (Exists found)) = fails name.Done
after_done from commit now (Err (VersionChanged expected found)) =
    ends name.Done (outcome.Changed expected found) (status.Failed (cause.VersionChanged expected found))
after_done from commit now (Err Failed) = fails name.Done
after_done from commit now (Err Memory) = None

-- ---- next: the next segment is created at the end of the Done one

abbrev pub next_key : Asked → Key
next_key q = key.Meta q.partition (next_sequence q.sequence)

abbrev pub next_node : Assigned → Asked → Moment → Seen → Node
next_node a q now done =
    node.Meta (first_of a.table q.partition (next_sequence q.sequence) (end_in done.node) now)

abbrev pub after_next : Seen → Result (Unit {0}) StoreRefused → Option Stepping
after_next done (Ok u) = goes (stage.IdealRead (work.Commit done) []) name.Next outcome.Fine
after_next done (Err NoNode) = ends name.Next outcome.Gone (status.CommitSuccess (seen_meta_of done))
after_next done (Err (Exists found)) = goes (stage.IdealRead (work.Commit done) []) name.Next outcome.Exists
after_next done (Err (VersionChanged expected found)) =
    ends name.Next (outcome.Changed expected found) (status.Failed (cause.VersionChanged expected found))
after_next done (Err Failed) = fails name.Next
after_next done (Err Memory) = None

-- ---- idealRead and idealSet

-- what the job changes of the ideal state
abbrev pub changes : Asked → Work → List IdealEntry → Bool
changes q (work.Commit done) es = commit_changes es q.partition q.sequence
changes q work.Offline es = offline_changes es q.partition q.sequence q.number.instance

abbrev pub changed_entries : Assigned → Asked → Work → List IdealEntry → List IdealEntry
changed_entries a q (work.Commit done) es =
    commit_step_of es q.partition q.sequence (replicas_in a q.partition)
changed_entries a q work.Offline es =
    set_offline_of es q.partition q.sequence q.number.instance

abbrev pub success : Work → ReplyStatus
success (work.Commit done) = status.CommitSuccess (seen_meta_of done)
success work.Offline = status.Processed

abbrev pub after_read : Asked → Work → List ℕ → Result Seen StoreRefused → Option Stepping
after_read q w found (Ok ideal) =
    if changes q w (entries_by ideal.node)
    then goes (stage.IdealSet w found ideal) name.IdealRead outcome.Fine
    else ends name.IdealRead outcome.Same (success w)
after_read q w found (Err NoNode) = fails name.IdealRead
after_read q w found (Err (Exists version)) = fails name.IdealRead
after_read q w found (Err (VersionChanged expected version)) = fails name.IdealRead
after_read q w found (Err Failed) = fails name.IdealRead
after_read q w found (Err Memory) = None

abbrev pub ideal_node : Assigned → Asked → Work → Seen → Node
ideal_node a q w ideal = node.Ideal (record { entries = changed_entries a q w (entries_by ideal.node) })

-- another version was found: the job reads again, but for the tenth time
abbrev pub tries_again : Work → List ℕ → ℕ → ℕ → Option Stepping
tries_again w found expected version =
    if nat_lt (length found) 9
    then goes (stage.IdealRead w (found ++ version ∷ [])) name.IdealSet (outcome.Changed expected version)
    else ends name.IdealSet (outcome.Changed expected version)
    (status.Failed (cause.IdealChanged (found ++ version ∷ [])))

abbrev pub after_set : Work → List ℕ → Result ℕ StoreRefused → Option Stepping
after_set w found (Ok version) = ends name.IdealSet outcome.Fine (success w)
after_set w found (Err NoNode) = fails name.IdealSet
after_set w found (Err (Exists version)) = fails name.IdealSet
after_set w found (Err (VersionChanged expected version)) = tries_again w found expected version
after_set w found (Err Failed) = fails name.IdealSet
after_set w found (Err Memory) = None

-- ---- a step

-- the one call of a job's step
abbrev pub call_at : Assigned → Asked → Moment → JobStage → Call
call_at a q now (stage.Check from end path) = gets path
call_at a q now (stage.Done from commit) = sets from (done_node from commit now)
call_at a q now (stage.Next done) = creates (next_key q) (next_node a q now done) done
call_at a q now (stage.IdealRead w found) = reads key.Ideal
call_at a q now (stage.IdealSet w found ideal) = sets ideal (ideal_node a q w ideal)
call_at a q now stage.Ended = calls_nothing

abbrev pub job_call : Assigned → Job → Moment → Call
job_call a j now = call_at a j.asked now j.stage

-- the step of a job with the answer of its call; none where memory ran out in it
abbrev pub step_at : Asked → Moment → JobStage → Answer → Option Stepping
step_at q now (stage.Check from end path) (got answer) = after_get q from end path answer
step_at q now (stage.Done from commit) (set answer) = after_done from commit now answer
step_at q now (stage.Next done) (created answer) = after_next done answer
step_at q now (stage.IdealRead w found) (read answer) = after_read q w found answer
step_at q now (stage.IdealSet w found ideal) (set answer) = after_set w found answer
step_at q now _ _ = None

abbrev pub job_step : Job → Moment → Answer → Option Stepping
job_step j now answer = step_at j.asked now j.stage answer

-- ---- of a job

-- whether a job commits its segment, and doesn't only turn an instance OFFLINE
abbrev pub is_commit : Work → Bool
is_commit (work.Commit done) = true
is_commit work.Offline = false

abbrev pub commits : JobStage → Bool
commits (stage.Check from end path) = true
commits (stage.Done from commit) = true
commits (stage.Next done) = true
commits (stage.IdealRead w found) = is_commit w
commits (stage.IdealSet w found ideal) = is_commit w
commits stage.Ended = false

-- the number of entries that the set of the ideal state has
abbrev pub set_count : Assigned → Asked → Work → List IdealEntry → ℕ
set_count a q w es = length (changed_entries a q w es)

abbrev pub sets_at : Assigned → Asked → JobStage → Option ℕ
sets_at a q (stage.Check from end path) = None
sets_at a q (stage.Done from commit) = None
sets_at a q (stage.Next done) = None
sets_at a q (stage.IdealRead w found) = None
sets_at a q (stage.IdealSet w found ideal) = Some (set_count a q w (entries_by ideal.node))
sets_at a q stage.Ended = None

-- the number of entries of the ideal state that the job's next step sets
abbrev pub job_sets : Assigned → Job → Option ℕ
job_sets a j = sets_at a j.asked j.stage

-- ---- a step of a job

-- the job at another stage
abbrev pub at_stage : Job → JobStage → Job
at_stage j s = record j { stage = s }
