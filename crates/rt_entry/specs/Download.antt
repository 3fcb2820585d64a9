-- A wanted file is loaded.
use Rattle.std.specs.Prelude.{◌≡◌, ℕ, ◌&&◌, ◌==◌, Bool, List, if◌then◌else◌, Option, Some, None, Result, Ok, Err}
use Rattle.std.specs.Str.{bytes_eq}
use Rattle.rt_base.specs.declared.header.Header.{Header}
use Rattle.rt_base.specs.declared.numbers.Partition.{Partition}
use Rattle.rt_base.specs.declared.numbers.Sequence.{Sequence}
use Rattle.rt_schema.specs.declared.schema.Schema.{Schema}
use Rattle.rt_segment.specs.declared.segment_refused.SegmentRefused.{SegmentRefused}
use Rattle.rt_segment.specs.Reading.{read_file}
use Rattle.rt_segment.specs.Segment.{SealedSegment, are_columns}
use Rattle.rt_segment.specs.Spelling.{header_of}
use Rattle.rt_model.specs.declared.commit.Commit.{Commit}
use Rattle.rt_model.specs.declared.seg_meta.SeenMeta.{SeenMeta}
use Rattle.rt_deep.specs.declared.refused.DeepRefused.{DeepRefused}
use Rattle.rt_deep.specs.declared.refused.DeepRefused.TheVariants as deep
use Rattle.rt_deep.specs.Meaning.{Meaning}
use Rattle.rt_deep.specs.Calls.{Gets}
use Rattle.rt_entry.specs.declared.entry.CommittedSegment.{CommittedSegment}
use Rattle.rt_entry.specs.declared.refused.ServerRefused.{ServerRefused}
use Rattle.rt_entry.specs.declared.refused.ServerRefused.TheVariants.{NotDue, StoreFault, BadFile, Memory}
use Rattle.rt_entry.specs.Entry.{wanted_by}
use Rattle.rt_entry.specs.Calls.{Step, Comes}

-- the header that the metadata of a commit names
abbrev pub header_by : Partition → Sequence → SeenMeta → Commit → Header
header_by p q done commit =
    record {
      partition = p;
      sequence = q;
      range = record { start = done.meta.start; end = commit.end };
      rows = commit.rows;
      digest = commit.digest;
    }

abbrev pub same_header : Header → Header → Bool
same_header a b =
    (a.partition.0 == b.partition.0) && (a.sequence.0 == b.sequence.0) && (a.range.start.0 == b.range.start.0)
    && (a.range.end.0 == b.range.end.0) && (a.rows == b.rows) && bytes_eq a.digest b.digest

-- a file with this header and the schema's columns
abbrev pub is_right : Schema → Header → SealedSegment → Bool
is_right schema wanted file = same_header (header_of file) wanted && are_columns file.columns schema.columns

abbrev pub checked : Schema → Header → Result SealedSegment SegmentRefused → Result SealedSegment ServerRefused
checked schema wanted (Ok file) = if is_right schema wanted file then Ok file else Err (BadFile wanted (Some (header_of file)))
checked schema wanted (Err e) = Err (BadFile wanted None)

-- by the answer of a get; which is refused in no other way than that nothing stands at the path
abbrev pub got : Schema → Header → Result (List ℕ) DeepRefused → Result SealedSegment ServerRefused
got schema wanted (Ok bytes) = checked schema wanted (read_file bytes)
got schema wanted (Err deep.Absent) = Err (BadFile wanted None)
got schema wanted (Err (deep.OtherBytes kept offered)) = Err (BadFile wanted None)
got schema wanted (Err deep.Failed) = Err StoreFault
got schema wanted (Err deep.Memory) = Err Memory

-- ---- a committed segment whose file is wanted

abbrev pub loaded_by : CommittedSegment → Result SealedSegment ServerRefused → Step CommittedSegment ℕ
loaded_by c (Ok file) = Ok (file.rows, record c { file = Some file })
loaded_by c (Err e) = Err e

abbrev pub LoadsOf : Option Commit → Meaning → Meaning → Schema → Partition → Sequence → CommittedSegment → CommittedSegment → Result ℕ ServerRefused → Type 0
LoadsOf None before after schema p q old new result = (after ≡ before) × (result ≡ Err NotDue) × (new ≡ old)
LoadsOf (Some commit) before after schema p q old new result =
    (answer : Result (List ℕ) DeepRefused) × Gets before after commit.path answer
    × Comes (loaded_by old (got schema (header_by p q old.done commit) answer)) old new result

-- not due where the file is there
abbrev pub LoadsFile : Meaning → Meaning → Schema → Partition → Sequence → CommittedSegment → CommittedSegment → Result ℕ ServerRefused → Type 0
LoadsFile before after schema p q old new result =
    LoadsOf (wanted_by old.file old.done.meta.status) before after schema p q old new result
