-- The past after a call, and how a commit ends.
use Rattle.std.specs.Prelude.{◌≡◌, ◌⊎◌, ℕ, ◌<◌, List, length, Bool, true, false, Option, Some, None}
use Rattle.rt_base.specs.declared.numbers.Partition.{Partition}
use Rattle.rt_base.specs.declared.numbers.Sequence.{Sequence}
use Rattle.rt_model.specs.declared.job_step.StepName.{StepName}
use Rattle.rt_model.specs.declared.job_step.StepName.TheVariants as name
use Rattle.rt_model.specs.declared.node.Key.TheVariants as key
use Rattle.rt_model.specs.declared.node.Seen.{Seen}
use Rattle.rt_model.specs.declared.reply.FailCause.{FailCause}
use Rattle.rt_model.specs.declared.reply.FailCause.TheVariants as cause
use Rattle.rt_model.specs.declared.reply.Reply.{Reply}
use Rattle.rt_model.specs.declared.reply.ReplyStatus.{ReplyStatus}
use Rattle.rt_model.specs.declared.reply.ReplyStatus.TheVariants as status
use Rattle.rt_model.specs.History.{value_of}
use Rattle.rt_store.specs.Meaning.{Told}
use Rattle.rt_past.specs.Past.{Past}
use Rattle.rt_past.specs.Segments.{WasDone}
use Rattle.rt_commit.specs.Calls.{Call}
use Rattle.rt_commit.specs.IsJob.{IsRead}
use Rattle.rt_commit.specs.Lasting.{AreTries}
use Rattle.rt_commit.specs.Told.{ToldDeep, store_after, deep_after}

-- what was written and what was put are all that the stores tell
abbrev pub told_past : Past → Told → ToldDeep → Past
told_past past t d = record past { history = t.writes; files = d.files }

-- and so they are after a call
abbrev pub past_after : Past → Told → ToldDeep → Call → Past
past_after past t d call = told_past past (store_after t call) (deep_after d call)

-- ---- how a commit ends

-- the segment's node changed: it was in progress at one version, and what is present now has a later one
pub record HasChanged (h : List Seen) (p : Partition) (s : Sequence) (expected found : ℕ) : Type 0 where
  pub read : Seen
  pub was_read : IsRead h p s read
  pub is_expected : read.version ≡ expected
  pub there : Seen
  pub present : value_of h (key.Meta p s) ≡ Some there
  pub is_found : there.version ≡ found
  pub later : expected < found

-- by its step: the segment's node is gone, or has changed since it was read; ten sets of the ideal state found another version
-- than the one just read; or a store met a fault in the step
abbrev pub FailsSo : List Seen → Partition → Sequence → Type 0 → StepName → FailCause → Type 0
FailsSo h p s rose n cause.NoSegment = (n ≡ name.Done) × (value_of h (key.Meta p s) ≡ None)
FailsSo h p s rose n (cause.VersionChanged expected found) = (n ≡ name.Done) × HasChanged h p s expected found
FailsSo h p s rose n (cause.IdealChanged versions) = (n ≡ name.IdealSet) × (length versions ≡ 10) × AreTries h versions
FailsSo h p s rose n cause.StoreFault = rose
FailsSo h p s rose n (cause.BadUpload wanted found) = ⊥
FailsSo h p s rose n (cause.WrongState state) = ⊥
FailsSo h p s rose n (cause.WrongOffset x o) = ⊥
FailsSo h p s rose n (cause.NotCommitter i) = ⊥
FailsSo h p s rose n cause.NotReplica = ⊥

-- a job that commits ends with the Done metadata of its segment, which was written, or fails so; another one is processed
abbrev pub StatusSo : List Seen → Partition → Sequence → Type 0 → Bool → StepName → ReplyStatus → Type 0
StatusSo h p s rose commit n (status.CommitSuccess seen) = (commit ≡ true) × WasDone h p s seen
StatusSo h p s rose commit n status.Processed = commit ≡ false
StatusSo h p s rose commit n (status.Failed because) = FailsSo h p s rose n because
StatusSo h p s rose commit n (status.Keep seen) = ⊥
StatusSo h p s rose commit n (status.UploadSuccess path) = ⊥
StatusSo h p s rose commit n status.Hold = ⊥
StatusSo h p s rose commit n (status.CatchUp offset) = ⊥
StatusSo h p s rose commit n status.Discard = ⊥
StatusSo h p s rose commit n (status.Commit offset) = ⊥
StatusSo h p s rose commit n status.NotLeader = ⊥
StatusSo h p s rose commit n status.CommitContinue = ⊥

abbrev pub EndsSo : List Seen → Partition → Sequence → Type 0 → Bool → StepName → Option Reply → Type 0
EndsSo h p s rose commit n None = Unit {0}
EndsSo h p s rose commit n (Some reply) = StatusSo h p s rose commit n reply.status

-- ---- a call, over a past that is all that the stores told

-- one of the stores met a fault
abbrev pub MetFault : Told → Told → ToldDeep → ToldDeep → Type 0
MetFault t u d e = (t.faults.met < u.faults.met) ⊎ (d.faults.met < e.faults.met)
