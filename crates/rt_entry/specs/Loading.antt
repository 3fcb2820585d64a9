-- A file is got and decoded, but that memory may run out.
use Rattle.std.specs.Prelude.{◌≡◌, ℕ, List, Option, Some, None, Result, Ok, Err}
use Rattle.rt_base.specs.declared.header.Header.{Header}
use Rattle.rt_base.specs.declared.numbers.Partition.{Partition}
use Rattle.rt_base.specs.declared.numbers.Sequence.{Sequence}
use Rattle.rt_model.specs.declared.commit.Commit.{Commit}
use Rattle.rt_model.specs.declared.seg_meta.SeenMeta.{SeenMeta}
use Rattle.rt_schema.specs.declared.schema.Schema.{Schema}
use Rattle.rt_segment.specs.declared.segment_refused.SegmentRefused.{SegmentRefused}
use Rattle.rt_segment.specs.declared.segment_refused.SegmentRefused.TheVariants as segment
use Rattle.rt_segment.specs.Segment.{SealedSegment}
use Rattle.rt_deep.specs.declared.refused.DeepRefused.{DeepRefused}
use Rattle.rt_deep.specs.Meaning.{Meaning}
use Rattle.rt_deep.specs.Calls.{Gets}
use Rattle.rt_entry.specs.declared.entry.CommittedSegment.{CommittedSegment}
use Rattle.rt_entry.specs.declared.entry.Entry.{Entry}
use Rattle.rt_entry.specs.declared.entry.Entry.TheVariants.{Replica, Committed}
use Rattle.rt_entry.specs.declared.refused.ServerRefused.{ServerRefused}
use Rattle.rt_entry.specs.declared.refused.ServerRefused.TheVariants.{NotDue, StoreFault, BadFile, Memory}
use Rattle.rt_entry.specs.Download.{LoadsFile, checked, got, header_by}
use Rattle.rt_entry.specs.Calls.{MayRunOut}
use Rattle.rt_entry.specs.Entry.{commit_in}

-- what was decoded, unless memory ran out
abbrev pub decoded_as : Schema → Header → Result SealedSegment SegmentRefused → Result SealedSegment ServerRefused
decoded_as schema wanted (Ok file) = checked schema wanted (Ok file)
decoded_as schema wanted (Err segment.Truncated) = Err (BadFile wanted None)
decoded_as schema wanted (Err segment.Magic) = Err (BadFile wanted None)
decoded_as schema wanted (Err (segment.NotCanonical byte)) = Err (BadFile wanted None)
decoded_as schema wanted (Err segment.Digest) = Err (BadFile wanted None)
decoded_as schema wanted (Err segment.Limit) = Err (BadFile wanted None)
decoded_as schema wanted (Err segment.Memory) = Err Memory

abbrev pub IsGot : Result SealedSegment ServerRefused → Result SealedSegment ServerRefused → Type 0
IsGot step (Ok file) = step ≡ Ok file
IsGot step (Err NotDue) = step ≡ Err NotDue
IsGot step (Err StoreFault) = step ≡ Err StoreFault
IsGot step (Err (BadFile wanted found)) = step ≡ Err (BadFile wanted found)
IsGot step (Err Memory) = MayRunOut step

abbrev pub Loads : Meaning → Meaning → List ℕ → Schema → Header → Result SealedSegment ServerRefused → Type 0
Loads before after path schema wanted result =
    (answer : Result (List ℕ) DeepRefused) × Gets before after path answer × IsGot (got schema wanted answer) result

-- the file of a commit, where metadata tells of one
abbrev pub LoadsBy : Option Commit → Meaning → Meaning → Schema → Partition → Sequence → SeenMeta → Result SealedSegment ServerRefused → Type 0
LoadsBy None before after schema p q done result = (after ≡ before) × (result ≡ Err NotDue)
LoadsBy (Some commit) before after schema p q done result = Loads before after commit.path schema (header_by p q done commit) result

abbrev pub LoadsDone : Meaning → Meaning → Schema → Partition → Sequence → SeenMeta → Result SealedSegment ServerRefused → Type 0
LoadsDone before after schema p q done result = LoadsBy (commit_in done.meta.status) before after schema p q done result

-- the file of an entry; a replica wants none
abbrev pub EntryLoads : Meaning → Meaning → Schema → Partition → Sequence → Entry → Entry → Result ℕ ServerRefused → Type 0
EntryLoads before after schema p q (Replica r) new result = (after ≡ before) × (result ≡ Err NotDue) × (new ≡ Replica r)
EntryLoads before after schema p q (Committed c) new result =
    (next : CommittedSegment) × LoadsFile before after schema p q c next result × (new ≡ Committed next)
