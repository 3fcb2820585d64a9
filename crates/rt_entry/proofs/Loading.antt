-- A wanted file is loaded.
use Rattle.std.proofs.Common.{◌≡◌, ◌==◌, ℕ, ◌&&◌, Bool, true, false, cond, List, Option, Some, None, is_some, Result, Ok, Err, IfSome, refl, sym, ap, subst, ◌∙◌}
use Rattle.std.specs.Str.{bytes_eq}
use Rattle.std.proofs.lemmas.Bool.{eqb-true}
use Rattle.std.proofs.lemmas.Slice.Eq.{bytes_eq-Decides}
use Rattle.rt_base.specs.declared.header.Header.{Header}
use Rattle.rt_base.specs.declared.numbers.Offset.{Offset}
use Rattle.rt_base.specs.declared.numbers.Partition.{Partition}
use Rattle.rt_base.specs.declared.numbers.Sequence.{Sequence}
use Rattle.rt_schema.specs.declared.schema.Schema.{Schema}
use Rattle.rt_segment.specs.declared.segment_refused.SegmentRefused.{SegmentRefused}
use Rattle.rt_segment.specs.declared.segment_refused.SegmentRefused.TheVariants as segment
use Rattle.rt_segment.specs.Cursor.{Answers}
use Rattle.rt_segment.specs.Reading.{read_file}
use Rattle.rt_segment.specs.Segment.{SealedSegment, are_columns}
use Rattle.rt_segment.specs.Spelling.{header_of}
use Rattle.rt_model.specs.declared.commit.Commit.{Commit}
use Rattle.rt_model.specs.declared.seg_meta.SeenMeta.{SeenMeta}
use Rattle.rt_model.specs.declared.status.Status.{Status}
use Rattle.rt_model.specs.declared.status.Status.TheVariants.{Done}
use Rattle.rt_model.proofs.Histories.{same_partition, same_sequence}
use Rattle.rt_deep.specs.declared.refused.DeepRefused.{DeepRefused}
use Rattle.rt_deep.specs.declared.refused.DeepRefused.TheVariants as deep
use Rattle.rt_deep.specs.Meaning.{Meaning}
use Rattle.rt_entry.specs.declared.entry.CommittedSegment.{CommittedSegment}
use Rattle.rt_entry.specs.declared.refused.ServerRefused.{ServerRefused}
use Rattle.rt_entry.specs.declared.refused.ServerRefused.TheVariants.{NotDue, StoreFault, BadFile, Memory}
use Rattle.rt_entry.specs.Calls.{MayRunOut}
use Rattle.rt_entry.specs.Download.{LoadsFile, LoadsOf, checked, got, header_by, is_right, loaded_by, same_header}
use Rattle.rt_entry.specs.Loading.{IsGot, Loads, LoadsBy, LoadsDone, decoded_as}
use Rattle.rt_entry.specs.Entry.{commit_in, wanted_by}

same_got : (step other result : Result SealedSegment ServerRefused) → other ≡ step → IsGot step result → IsGot other result
same_got step other result e h = subst (λ x. IsGot x result) (sym e) h

abbrev no_memory : Result SealedSegment ServerRefused
no_memory = Err Memory

-- memory may run out while bytes are read, whatever is in them
right_may : (schema : Schema) (wanted : Header) (file : SealedSegment) (right : Bool) → is_right schema wanted file ≡ right → MayRunOut (checked schema wanted (Ok file))
right_may schema wanted file true e = rw e tt
right_may schema wanted file false e = rw e tt

checked_may : (schema : Schema) (wanted : Header) (read : Result SealedSegment SegmentRefused) → MayRunOut (checked schema wanted read)
checked_may schema wanted (Ok file) = right_may schema wanted file (is_right schema wanted file) refl
checked_may schema wanted (Err e) = tt

-- where memory ran out, nothing else can have come of it
ran_out : (step result : Result SealedSegment ServerRefused) → MayRunOut step → IsGot no_memory result → IsGot step result
ran_out step (Ok file) m h = absurd (cc)
ran_out step (Err NotDue) m h = absurd (cc)
ran_out step (Err StoreFault) m h = absurd (cc)
ran_out step (Err (BadFile wanted found)) m h = absurd (cc)
ran_out step (Err Memory) m h = m

-- what is got of decoded bytes is what is got of the bytes, unless memory ran out
pub decoded_is : (schema : Schema) (wanted : Header) (decoded read : Result SealedSegment SegmentRefused) (result : Result SealedSegment ServerRefused)
    → Answers (λ s. s) decoded read → IsGot (decoded_as schema wanted decoded) result → IsGot (checked schema wanted read) result
decoded_is schema wanted (Ok file) read result e h = same_got (decoded_as schema wanted (Ok file)) (checked schema wanted read) result (ap (checked schema wanted) e) h
decoded_is schema wanted (Err segment.Truncated) read result e h = same_got (decoded_as schema wanted (Err segment.Truncated)) (checked schema wanted read) result (ap (checked schema wanted) e) h
decoded_is schema wanted (Err segment.Magic) read result e h = same_got (decoded_as schema wanted (Err segment.Magic)) (checked schema wanted read) result (ap (checked schema wanted) e) h
decoded_is schema wanted (Err (segment.NotCanonical byte)) read result e h = same_got (decoded_as schema wanted (Err (segment.NotCanonical byte))) (checked schema wanted read) result (ap (checked schema wanted) e) h
decoded_is schema wanted (Err segment.Digest) read result e h = same_got (decoded_as schema wanted (Err segment.Digest)) (checked schema wanted read) result (ap (checked schema wanted) e) h
decoded_is schema wanted (Err segment.Limit) read result e h = same_got (decoded_as schema wanted (Err segment.Limit)) (checked schema wanted read) result (ap (checked schema wanted) e) h
decoded_is schema wanted (Err segment.Memory) read result e h = ran_out (checked schema wanted read) result (checked_may schema wanted read) h

abbrev the_loaded : SealedSegment → Result SealedSegment ServerRefused
the_loaded file = Ok file

-- ---- a committed segment

wanted_open : (o : Option SealedSegment) (status : Status) → is_some o ≡ false → wanted_by o status ≡ commit_in status
wanted_open None status e = refl
wanted_open (Some file) status e = absurd (cc)

wanted_held : (o : Option SealedSegment) (status : Status) → is_some o ≡ true → wanted_by o status ≡ None
wanted_held None status e = absurd (cc)
wanted_held (Some file) status e = refl

pub load_none : (m : Meaning) (schema : Schema) (p : Partition) (q : Sequence) (done : SeenMeta) → commit_in done.meta.status ≡ None
    → LoadsDone m m schema p q done (Err NotDue)
load_none m schema p q done e = subst (λ o. LoadsBy o m m schema p q done (Err NotDue)) (sym e) (refl, refl)

pub load_some : (before after : Meaning) (schema : Schema) (p : Partition) (q : Sequence) (done : SeenMeta) (commit : Commit) (result : Result SealedSegment ServerRefused)
    → done.meta.status ≡ Done commit → Loads before after commit.path schema (header_by p q done commit) result
    → LoadsDone before after schema p q done result
load_some before after schema p q done commit result is h = subst (λ o. LoadsBy o before after schema p q done result) (sym (ap commit_in is)) h

abbrev refuse : (X : Type 0) → ServerRefused → Result X ServerRefused
refuse X e = Err e

not_loaded : (file : SealedSegment) → the_loaded file ≡ refuse SealedSegment NotDue → ⊥
not_loaded file e = cc

loads_ok_by : (before after : Meaning) (schema : Schema) (p : Partition) (q : Sequence) (old : CommittedSegment) (file : SealedSegment) (o : Option Commit)
    → LoadsBy o before after schema p q old.done (Ok file) → LoadsOf o before after schema p q old (record old { file = Some file }) (Ok file.rows)
loads_ok_by before after schema p q old file None h = absurd (not_loaded file h.1)
loads_ok_by before after schema p q old file (Some commit) h = (h.0, h.1, ap (loaded_by old) h.2)

pub loads_ok : (before after : Meaning) (schema : Schema) (p : Partition) (q : Sequence) (old : CommittedSegment) (file : SealedSegment)
    → is_some old.file ≡ false → LoadsDone before after schema p q old.done (Ok file)
    → LoadsFile before after schema p q old (record old { file = Some file }) (Ok file.rows)
loads_ok before after schema p q old file none h =
    subst (λ o. LoadsOf o before after schema p q old (record old { file = Some file }) (Ok file.rows))
    (sym (wanted_open old.file old.done.meta.status none))
    (loads_ok_by before after schema p q old file (commit_in old.done.meta.status) h)

same_refusal : (e x : ServerRefused) → refuse SealedSegment e ≡ refuse SealedSegment x → refuse ℕ e ≡ refuse ℕ x
same_refusal e x h = cc

-- a wanted file that may run out of memory, may so as it is loaded
loaded_may : (old : CommittedSegment) (g : Result SealedSegment ServerRefused) → MayRunOut g → MayRunOut (loaded_by old g)
loaded_may old (Ok file) m = tt
loaded_may old (Err NotDue) m = m
loaded_may old (Err StoreFault) m = m
loaded_may old (Err (BadFile wanted found)) m = tt
loaded_may old (Err Memory) m = tt

loads_err_by : (before after : Meaning) (schema : Schema) (p : Partition) (q : Sequence) (old : CommittedSegment) (e : ServerRefused) (o : Option Commit)
    → LoadsBy o before after schema p q old.done (Err e) → LoadsOf o before after schema p q old old (Err e)
loads_err_by before after schema p q old e None h = (h.0, same_refusal e NotDue h.1, refl)
loads_err_by before after schema p q old NotDue (Some commit) h = (h.0, h.1, (ap (loaded_by old) h.2, refl))
loads_err_by before after schema p q old StoreFault (Some commit) h = (h.0, h.1, (ap (loaded_by old) h.2, refl))
loads_err_by before after schema p q old (BadFile wanted found) (Some commit) h = (h.0, h.1, (ap (loaded_by old) h.2, refl))
loads_err_by before after schema p q old Memory (Some commit) h = (h.0, h.1, (loaded_may old (got schema (header_by p q old.done commit) h.0) h.2, refl))

pub loads_err : (before after : Meaning) (schema : Schema) (p : Partition) (q : Sequence) (old : CommittedSegment) (e : ServerRefused)
    → is_some old.file ≡ false → LoadsDone before after schema p q old.done (Err e)
    → LoadsFile before after schema p q old old (Err e)
loads_err before after schema p q old e none h =
    subst (λ o. LoadsOf o before after schema p q old old (Err e))
    (sym (wanted_open old.file old.done.meta.status none))
    (loads_err_by before after schema p q old e (commit_in old.done.meta.status) h)

pub not_due_held : (m : Meaning) (schema : Schema) (p : Partition) (q : Sequence) (old : CommittedSegment) → is_some old.file ≡ true
    → LoadsFile m m schema p q old old (Err NotDue)
not_due_held m schema p q old e =
    subst (λ o. LoadsOf o m m schema p q old old (Err NotDue)) (sym (wanted_held old.file old.done.meta.status e)) (refl, refl, refl)

-- ---- what is loaded has the schema's columns

abbrev the_file : SealedSegment → Result SealedSegment ServerRefused
the_file file = Ok file

both_true : (a b : Bool) → (a && b) ≡ true → b ≡ true
both_true true b h = h
both_true false b h = absurd (cc)

checked_if : (schema : Schema) (wanted : Header) (f file : SealedSegment) (b : Bool) → is_right schema wanted f ≡ b
    → cond b (the_file f) (Err (BadFile wanted (Some (header_of f)))) ≡ the_file file → are_columns file.columns schema.columns ≡ true
checked_if schema wanted f file true right e =
    subst (λ (x : SealedSegment). are_columns x.columns schema.columns ≡ true) (unwrapped f file e)
    (both_true (same_header (header_of f) wanted) (are_columns f.columns schema.columns) right)
  where
    unwrapped : (a b : SealedSegment) → the_file a ≡ the_file b → a ≡ b
    unwrapped a b e = cc
checked_if schema wanted f file false right e = absurd (cc)

checked_fits : (schema : Schema) (wanted : Header) (read : Result SealedSegment SegmentRefused) (file : SealedSegment)
    → checked schema wanted read ≡ the_file file → are_columns file.columns schema.columns ≡ true
checked_fits schema wanted (Ok f) file e = checked_if schema wanted f file (is_right schema wanted f) refl e
checked_fits schema wanted (Err x) file e = absurd (cc)

got_fits : (schema : Schema) (wanted : Header) (answer : Result (List ℕ) DeepRefused) (file : SealedSegment)
    → got schema wanted answer ≡ the_file file → are_columns file.columns schema.columns ≡ true
got_fits schema wanted (Ok bytes) file e = checked_fits schema wanted (read_file bytes) file e
got_fits schema wanted (Err deep.Absent) file e = absurd (cc)
got_fits schema wanted (Err (deep.OtherBytes kept offered)) file e = absurd (cc)
got_fits schema wanted (Err deep.Failed) file e = absurd (cc)
got_fits schema wanted (Err deep.Memory) file e = absurd (cc)

abbrev FitsSchema : Schema → CommittedSegment → Type 0
FitsSchema schema c = IfSome c.file (λ file. are_columns file.columns schema.columns ≡ true)

abbrev came : ℕ → CommittedSegment → Result (ℕ × CommittedSegment) ServerRefused
came rows next = Ok (rows, next)

abbrev next_of : CommittedSegment → Result (ℕ × CommittedSegment) ServerRefused → CommittedSegment
next_of other (Ok x) = x.1
next_of other (Err e) = other

unwrapped : (n m : ℕ) (a b : CommittedSegment) → came n a ≡ came m b → a ≡ b
unwrapped n m a b e = ap (next_of a) e

loaded_ok : (schema : Schema) (old new : CommittedSegment) (rows : ℕ) (g : Result SealedSegment ServerRefused)
    → ((file : SealedSegment) → g ≡ the_file file → are_columns file.columns schema.columns ≡ true) → loaded_by old g ≡ came rows new → FitsSchema schema new
loaded_ok schema old new rows (Ok file) fits e = subst (FitsSchema schema) (unwrapped file.rows rows (record old { file = Some file }) new e) (fits file refl)
loaded_ok schema old new rows (Err x) fits e = absurd (cc)

pub loads_fit : (before after : Meaning) (schema : Schema) (p : Partition) (q : Sequence) (old new : CommittedSegment) (result : Result ℕ ServerRefused) (o : Option Commit)
    → LoadsOf o before after schema p q old new result → FitsSchema schema old → FitsSchema schema new
loads_fit before after schema p q old new result None h fits = subst (FitsSchema schema) (sym h.2) fits
loads_fit before after schema p q old new (Ok rows) (Some commit) h fits =
    loaded_ok schema old new rows (got schema (header_by p q old.done commit) h.0) (got_fits schema (header_by p q old.done commit) h.0) h.2
loads_fit before after schema p q old new (Err NotDue) (Some commit) h fits = subst (FitsSchema schema) (sym h.2.1) fits
loads_fit before after schema p q old new (Err StoreFault) (Some commit) h fits = subst (FitsSchema schema) (sym h.2.1) fits
loads_fit before after schema p q old new (Err (BadFile wanted found)) (Some commit) h fits = subst (FitsSchema schema) (sym h.2.1) fits
loads_fit before after schema p q old new (Err Memory) (Some commit) h fits = subst (FitsSchema schema) (sym h.2.1) fits

-- ---- what is loaded is what was read

abbrev gives : List ℕ → Result (List ℕ) DeepRefused
gives bytes = Ok bytes

abbrev reads : SealedSegment → Result SealedSegment SegmentRefused
reads file = Ok file

-- the file was read of the bytes that were answered, and has the header that is wanted and the schema's columns
pub record IsReadOf (schema : Schema) (wanted : Header) (answer : Result (List ℕ) DeepRefused) (file : SealedSegment) : Type 0 where
  pub bytes : List ℕ
  pub answered : answer ≡ gives bytes
  pub read : read_file bytes ≡ reads file
  pub header : header_of file ≡ wanted
  pub columns : are_columns file.columns schema.columns ≡ true

first_true : (a b : Bool) → (a && b) ≡ true → a ≡ true
first_true true b h = refl
first_true false b h = absurd (cc)

same_offset : (a b : Offset) → a.0 ≡ b.0 → a ≡ b
same_offset a b e = ap (λ n. record { 0 = n }) e

abbrev header_at : Partition → Sequence → Offset → Offset → ℕ → List ℕ → Header
header_at p q start end rows digest = record { partition = p; sequence = q; range = record { start = start; end = end }; rows = rows; digest = digest }

header_by_parts : (a b : Header) → a.partition ≡ b.partition → a.sequence ≡ b.sequence → a.range.start ≡ b.range.start → a.range.end ≡ b.range.end
    → a.rows ≡ b.rows → a.digest ≡ b.digest → a ≡ b
header_by_parts a b p q s e r d =
    ap (λ x. header_at x a.sequence a.range.start a.range.end a.rows a.digest) p
    ∙ ap (λ x. header_at b.partition x a.range.start a.range.end a.rows a.digest) q
    ∙ ap (λ x. header_at b.partition b.sequence x a.range.end a.rows a.digest) s
    ∙ ap (λ x. header_at b.partition b.sequence b.range.start x a.rows a.digest) e
    ∙ ap (λ x. header_at b.partition b.sequence b.range.start b.range.end x a.digest) r
    ∙ ap (λ x. header_at b.partition b.sequence b.range.start b.range.end b.rows x) d

same_header_is : (a b : Header) → same_header a b ≡ true → a ≡ b
same_header_is a b h =
    let partition = a.partition.0 == b.partition.0 in
    let sequence = a.sequence.0 == b.sequence.0 in
    let start = a.range.start.0 == b.range.start.0 in
    let end = a.range.end.0 == b.range.end.0 in
    let rows = a.rows == b.rows in
    let digest = bytes_eq a.digest b.digest in
    let to2 = partition && sequence in
    let to3 = to2 && start in
    let to4 = to3 && end in
    let to5 = to4 && rows in
    let is5 = first_true to5 digest h in
    let is4 = first_true to4 rows is5 in
    let is3 = first_true to3 end is4 in
    let is2 = first_true to2 start is3 in
    header_by_parts a b
    (same_partition a.partition b.partition (eqb-true a.partition.0 b.partition.0 (first_true partition sequence is2)))
    (same_sequence a.sequence b.sequence (eqb-true a.sequence.0 b.sequence.0 (both_true partition sequence is2)))
    (same_offset a.range.start b.range.start (eqb-true a.range.start.0 b.range.start.0 (both_true to2 start is3)))
    (same_offset a.range.end b.range.end (eqb-true a.range.end.0 b.range.end.0 (both_true to3 end is4)))
    (eqb-true a.rows b.rows (both_true to4 rows is5))
    ((bytes_eq-Decides a.digest b.digest).0 (both_true to5 digest h))

read_if : (schema : Schema) (wanted : Header) (bytes : List ℕ) (f file : SealedSegment) (b : Bool) → read_file bytes ≡ reads f → is_right schema wanted f ≡ b
    → cond b (the_file f) (Err (BadFile wanted (Some (header_of f)))) ≡ the_file file → IsReadOf schema wanted (gives bytes) file
read_if schema wanted bytes f file true read right e =
    subst (IsReadOf schema wanted (gives bytes)) (unwrapped f file e)
    (record {
      bytes = bytes;
      answered = refl;
      read = read;
      header = same_header_is (header_of f) wanted (first_true (same_header (header_of f) wanted) (are_columns f.columns schema.columns) right);
      columns = both_true (same_header (header_of f) wanted) (are_columns f.columns schema.columns) right;
    })
  where
    unwrapped : (a b : SealedSegment) → the_file a ≡ the_file b → a ≡ b
    unwrapped a b e = cc
read_if schema wanted bytes f file false read right e = absurd (cc)

read_by : (schema : Schema) (wanted : Header) (bytes : List ℕ) (r : Result SealedSegment SegmentRefused) (file : SealedSegment) → read_file bytes ≡ r
    → checked schema wanted r ≡ the_file file → IsReadOf schema wanted (gives bytes) file
read_by schema wanted bytes (Ok f) file read e = read_if schema wanted bytes f file (is_right schema wanted f) read refl e
read_by schema wanted bytes (Err x) file read e = absurd (cc)

pub got_is : (schema : Schema) (wanted : Header) (answer : Result (List ℕ) DeepRefused) (file : SealedSegment) → got schema wanted answer ≡ the_file file
    → IsReadOf schema wanted answer file
got_is schema wanted (Ok bytes) file e = read_by schema wanted bytes (read_file bytes) file refl e
got_is schema wanted (Err deep.Absent) file e = absurd (cc)
got_is schema wanted (Err (deep.OtherBytes kept offered)) file e = absurd (cc)
got_is schema wanted (Err deep.Failed) file e = absurd (cc)
got_is schema wanted (Err deep.Memory) file e = absurd (cc)
