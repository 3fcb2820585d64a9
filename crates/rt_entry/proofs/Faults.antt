-- An entry answers a fault of the deep store only where the store's count of faults rose.
use Rattle.std.proofs.Common.{◌≡◌, ℕ, ◌<◌, Bool, true, false, cond, List, Option, Some, None, Result, Ok, Err, refl, subst}
use Rattle.rt_base.specs.declared.header.Header.{Header}
use Rattle.rt_base.specs.declared.numbers.Partition.{Partition}
use Rattle.rt_base.specs.declared.numbers.Sequence.{Sequence}
use Rattle.rt_schema.specs.declared.schema.Schema.{Schema}
use Rattle.rt_segment.specs.declared.segment_refused.SegmentRefused.{SegmentRefused}
use Rattle.rt_segment.specs.Reading.{read_file}
use Rattle.rt_segment.specs.Segment.{SealedSegment}
use Rattle.rt_segment.specs.Spelling.{header_of}
use Rattle.rt_model.specs.declared.commit.Commit.{Commit}
use Rattle.rt_deep.specs.declared.refused.DeepRefused.{DeepRefused}
use Rattle.rt_deep.specs.declared.refused.DeepRefused.TheVariants as deep
use Rattle.rt_deep.specs.Calls.{Gets}
use Rattle.rt_deep.specs.Meaning.{Meaning}
use Rattle.rt_deep.proofs.Told.{get_rose}
use Rattle.rt_entry.specs.declared.entry.CommittedSegment.{CommittedSegment}
use Rattle.rt_entry.specs.declared.refused.ServerRefused.{ServerRefused}
use Rattle.rt_entry.specs.declared.refused.ServerRefused.TheVariants.{NotDue, StoreFault, BadFile}
use Rattle.rt_entry.specs.Download.{LoadsFile, LoadsOf, checked, got, header_by, is_right, loaded_by}
use Rattle.rt_entry.specs.Entry.{wanted_by}

abbrev fault : (X : Type 0) → Result X ServerRefused
fault X = Err StoreFault

abbrev failed : Result (List ℕ) DeepRefused
failed = Err deep.Failed

never_if : (b : Bool) (file : SealedSegment) (wanted : Header) (found : Option Header) → cond b (Ok file) (Err (BadFile wanted found)) ≡ fault SealedSegment → ⊥
never_if true file wanted found e = cc
never_if false file wanted found e = cc

-- bytes that were got are no fault, whatever they are
checked_never : (schema : Schema) (wanted : Header) (read : Result SealedSegment SegmentRefused) → checked schema wanted read ≡ fault SealedSegment → ⊥
checked_never schema wanted (Ok file) e = never_if (is_right schema wanted file) file wanted (Some (header_of file)) e
checked_never schema wanted (Err x) e = cc

got_failed : (schema : Schema) (wanted : Header) (answer : Result (List ℕ) DeepRefused) → got schema wanted answer ≡ fault SealedSegment → answer ≡ failed
got_failed schema wanted (Ok bytes) e = absurd (checked_never schema wanted (read_file bytes) e)
got_failed schema wanted (Err deep.Absent) e = absurd (cc)
got_failed schema wanted (Err (deep.OtherBytes kept offered)) e = absurd (cc)
got_failed schema wanted (Err deep.Failed) e = refl
got_failed schema wanted (Err deep.Memory) e = absurd (cc)

loaded_failed : (c : CommittedSegment) (g : Result SealedSegment ServerRefused) → loaded_by c g ≡ fault (ℕ × CommittedSegment) → g ≡ fault SealedSegment
loaded_failed c (Ok file) e = absurd (cc)
loaded_failed c (Err x) e = cc

not_due : fault ℕ ≡ Err NotDue → ⊥
not_due e = cc

loads_by : (before after : Meaning) (schema : Schema) (p : Partition) (q : Sequence) (old new : CommittedSegment) (o : Option Commit)
    → LoadsOf o before after schema p q old new (fault ℕ) → before.faults < after.faults
loads_by before after schema p q old new None h = absurd (not_due h.1)
loads_by before after schema p q old new (Some commit) h =
    let wanted = header_by p q old.done commit in
    get_rose before after commit.path
    (subst (Gets before after commit.path) (got_failed schema wanted h.0 (loaded_failed old (got schema wanted h.0) h.2.0)) h.1)

pub loads_rose : (before after : Meaning) (schema : Schema) (p : Partition) (q : Sequence) (old new : CommittedSegment)
    → LoadsFile before after schema p q old new (fault ℕ) → before.faults < after.faults
loads_rose before after schema p q old new h = loads_by before after schema p q old new (wanted_by old.file old.done.meta.status) h
