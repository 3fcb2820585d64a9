-- A wanted file stands, and is the one that is wanted.
use Rattle.std.proofs.Common.{◌≡◌, ℕ, true, List, Option, Some, None, Result, Ok, Err, refl, sym, ap, subst, ◌∙◌, arith}
use Rattle.std.proofs.lemmas.Bool.{eq-eqb}
use Rattle.std.proofs.lemmas.Slice.Eq.{bytes_eq-Decides}
use Rattle.rt_base.specs.declared.fault.Fault.{Fault}
use Rattle.rt_base.specs.declared.fault.Fault.TheVariants as fault
use Rattle.rt_base.specs.declared.header.Header.{Header}
use Rattle.rt_base.specs.declared.numbers.Instance.{Instance}
use Rattle.rt_base.specs.declared.numbers.Offset.{Offset}
use Rattle.rt_base.specs.declared.numbers.Partition.{Partition}
use Rattle.rt_base.specs.declared.numbers.Sequence.{Sequence}
use Rattle.rt_base.specs.declared.range.Range.{Range}
use Rattle.rt_base.specs.Faults.{answer_under}
use Rattle.rt_schema.specs.Row.{rows_in}
use Rattle.rt_segment.specs.Reading.{read_file}
use Rattle.rt_segment.specs.Segment.{SealedSegment}
use Rattle.rt_segment.proofs.FileLaws.{spelled_read}
use Rattle.rt_stream.specs.Log.{messages_of}
use Rattle.rt_model.specs.declared.commit.Commit.{Commit}
use Rattle.rt_model.specs.declared.seg_meta.SeenMeta.{SeenMeta}
use Rattle.rt_model.specs.declared.setup.Setup.{Setup}
use Rattle.rt_model.specs.declared.status.Status.{Status}
use Rattle.rt_model.specs.declared.status.Status.TheVariants.{InProgress, Done, Abandoned}
use Rattle.rt_deep.specs.declared.deep_put.DeepPut.{DeepPut}
use Rattle.rt_deep.specs.declared.refused.DeepRefused.{DeepRefused}
use Rattle.rt_deep.specs.declared.refused.DeepRefused.TheVariants as deep
use Rattle.rt_deep.specs.Answers.{found_in}
use Rattle.rt_deep.specs.Calls.{Gets}
use Rattle.rt_deep.specs.Files as files
use Rattle.rt_deep.specs.Meaning.{Meaning}
use Rattle.rt_deep.proofs.Seeing.{absent_seen, get_seen}
use Rattle.rt_past.specs.Past.{Past}
use Rattle.rt_past.specs.Files.{IsStored, Stands, header_named}
use Rattle.rt_past.specs.IsPast.{IsPast}
use Rattle.rt_consumer.specs.Consumer.{end_in}
use Rattle.rt_entry.specs.declared.entry.CommittedSegment.{CommittedSegment}
use Rattle.rt_entry.specs.declared.entry.Entry.{Entry}
use Rattle.rt_entry.specs.declared.entry.Entry.TheVariants.{Replica, Committed}
use Rattle.rt_entry.specs.declared.refused.ServerRefused.{ServerRefused}
use Rattle.rt_entry.specs.declared.refused.ServerRefused.TheVariants.{NotDue, StoreFault, BadFile, Memory}
use Rattle.rt_entry.specs.Download.{LoadsOf, checked, got, header_by, is_right, loaded_by, same_header}
use Rattle.rt_entry.specs.Entry.{wanted_by}
use Rattle.rt_server.specs.Download.{Downloads, DownloadsAt, committed_at}
use Rattle.rt_server.specs.Lasting.{IsCommittedOver, IsLoaded, IsServerOver}
use Rattle.rt_server.specs.Table.{ServerState, entry_of}
use Rattle.rt_server.proofs.LastingEntries.{found_over}
use Rattle.rt_server.proofs.LastingTargets.{done_stored}

-- ---- what is got

-- the bytes, or a fault or want of memory
abbrev Gives : List ℕ → Result (List ℕ) DeepRefused → Type 0
Gives bytes (Ok found) = found ≡ bytes
Gives bytes (Err deep.Absent) = ⊥
Gives bytes (Err (deep.OtherBytes kept offered)) = ⊥
Gives bytes (Err deep.Failed) = Unit {0}
Gives bytes (Err deep.Memory) = Unit {0}

abbrev put_at : List ℕ → List ℕ → Option DeepPut
put_at path bytes = Some (record { path = path; bytes = bytes })

abbrev bytes_in : List ℕ → Option DeepPut → List ℕ
bytes_in other None = other
bytes_in other (Some file) = file.bytes

same_put : (path a b : List ℕ) → put_at path a ≡ put_at path b → a ≡ b
same_put path a b e = ap (bytes_in a) e

no_put : (path bytes : List ℕ) → None ≡ put_at path bytes → ⊥
no_put path bytes e = cc

abbrev failing : DeepRefused → Result (List ℕ) DeepRefused
failing e = Err e

no_other : (f : Fault) (o : Option DeepPut) (kept offered : List ℕ) → failing (deep.OtherBytes kept offered) ≡ answer_under deep.Failed f (found_in o) → ⊥
no_other fault.Nothing None kept offered e = cc
no_other fault.Nothing (Some file) kept offered e = cc
no_other fault.Lost o kept offered e = cc
no_other fault.Kept o kept offered e = cc

gives : (before after : Meaning) (path bytes : List ℕ) (answer : Result (List ℕ) DeepRefused) → Gets before after path answer → Stands after.seen path bytes → Gives bytes answer
gives before after path bytes (Ok found) c stands = same_put path found bytes (sym (get_seen before after path found c) ∙ stands)
gives before after path bytes (Err deep.Absent) c stands = no_put path bytes (sym (absent_seen before after path c) ∙ stands)
gives before after path bytes (Err (deep.OtherBytes kept offered)) c stands = no_other c.fault (files.file_of c.base path) kept offered c.goes.answered
gives before after path bytes (Err deep.Failed) c stands = tt
gives before after path bytes (Err deep.Memory) c stands = tt

-- ---- what is loaded

same_header-refl : (h : Header) → same_header h h ≡ true
same_header-refl h =
    rw (
      eq-eqb h.partition.0 h.partition.0 refl,
      eq-eqb h.sequence.0 h.sequence.0 refl,
      eq-eqb h.range.start.0 h.range.start.0 refl,
      eq-eqb h.range.end.0 h.range.end.0 refl,
      eq-eqb h.rows h.rows refl,
      (bytes_eq-Decides h.digest h.digest).1 refl,
    ) refl

-- this file, or a fault or want of memory
abbrev LoadsAs : SealedSegment → Result SealedSegment ServerRefused → Type 0
LoadsAs file (Ok found) = found ≡ file
LoadsAs file (Err StoreFault) = Unit {0}
LoadsAs file (Err Memory) = Unit {0}
LoadsAs file (Err NotDue) = ⊥
LoadsAs file (Err (BadFile wanted found)) = ⊥

abbrev done_by : Commit → Status
done_by c = Done c

same_commit : (a b : Commit) → done_by a ≡ done_by b → a ≡ b
same_commit a b e = cc

module _ (setup : Setup) (past : Past) (p : Partition) (q : Sequence) (done : SeenMeta) (commit : Commit) (stored : IsStored setup past p q done.meta.start commit) where
  abbrev the_file : SealedSegment
  the_file = stored.right.file.segment

  is_right_file : is_right setup.schema (header_by p q done commit) the_file ≡ true
  is_right_file =
      let same = ap (λ h. same_header h (header_by p q done commit)) stored.header in
      rw (same, same_header-refl (header_by p q done commit), stored.right.file.columns) refl

  checked_file : checked setup.schema (header_by p q done commit) (read_file stored.bytes) ≡ Ok the_file
  checked_file =
      let read : read_file stored.bytes ≡ Ok the_file = ap read_file stored.right.file.spelled ∙ spelled_read the_file stored.right.file.«sealed» in
      rw (read, is_right_file) refl

  loads_as : (answer : Result (List ℕ) DeepRefused) → Gives stored.bytes answer → LoadsAs the_file (got setup.schema (header_by p q done commit) answer)
  loads_as (Ok found) same =
      subst (LoadsAs the_file) (sym (ap (λ b. checked setup.schema (header_by p q done commit) (read_file b)) same ∙ checked_file)) refl
  loads_as (Err deep.Absent) none = absurd none
  loads_as (Err (deep.OtherBytes kept offered)) none = absurd none
  loads_as (Err deep.Failed) u = tt
  loads_as (Err deep.Memory) u = tt

  pub file_loaded : done.meta.status ≡ Done commit → IsLoaded setup past p q done the_file
  file_loaded status =
      let f = stored.right.file in
      let end : the_file.range.end ≡ commit.end = ap (λ (r : Range). r.end) f.header.2 in
      record {
        kept = record {
          whole = f.«sealed»;
          columns = f.columns;
          segment = (f.header.0, f.header.1);
          first = ap (λ (r : Range). r.start) f.header.2;
          told = ap end_in status ∙ ap (λ (x : Offset). Some x) (sym end);
        };
        named = λ other is. stored.header ∙ ap (header_named p q done.meta.start) (same_commit commit other (sym status ∙ is));
        format = stored.right.format;
        indexed = stored.right.indexed;
        held = record {
          ordered = omega (arith, f.within.0, ap (λ (x : Offset). x.0) end);
          within = omega (arith, f.within.1, ap (λ (x : Offset). x.0) end);
          rows = f.rows ∙ ap (λ (x : Offset). rows_in setup.schema (messages_of past.log p) done.meta.start.0 x.0) (sym end);
        };
      }

-- ---- the entry

abbrev came : SealedSegment → CommittedSegment → Result (ℕ × CommittedSegment) ServerRefused
came file c = Ok (file.rows, record c { file = Some file })

abbrev refuse : ServerRefused → Result (ℕ × CommittedSegment) ServerRefused
refuse e = Err e

abbrev pub with_it : CommittedSegment → SealedSegment → CommittedSegment
with_it c file = record c { file = Some file }

abbrev answer_by : ServerRefused → Result ℕ ServerRefused
answer_by e = Err e

bad_due : (wanted : Header) (found : Option Header) → answer_by (BadFile wanted found) ≡ answer_by NotDue → ⊥
bad_due wanted found e = cc

no_fault : (wanted : Header) (found : Option Header) → refuse StoreFault ≡ refuse (BadFile wanted found) → ⊥
no_fault wanted found e = cc

no_memory : (wanted : Header) (found : Option Header) → refuse Memory ≡ refuse (BadFile wanted found) → ⊥
no_memory wanted found e = cc

no_file : (file : SealedSegment) (c : CommittedSegment) (wanted : Header) (found : Option Header) → came file c ≡ refuse (BadFile wanted found) → ⊥
no_file file c wanted found e = cc

never_bad_by : (file : SealedSegment) (c : CommittedSegment) (wanted : Header) (found : Option Header) (g : Result SealedSegment ServerRefused) → LoadsAs file g
    → loaded_by c g ≡ refuse (BadFile wanted found) → ⊥
never_bad_by file c wanted found (Ok f) are e = no_file f c wanted found e
never_bad_by file c wanted found (Err StoreFault) are e = no_fault wanted found e
never_bad_by file c wanted found (Err Memory) are e = no_memory wanted found e
never_bad_by file c wanted found (Err NotDue) are e = are
never_bad_by file c wanted found (Err (BadFile w f)) are e = are

-- the commit that is wanted is the one that metadata tells of
pub wanted_is : (o : Option SealedSegment) (status : Status) (commit : Commit) → wanted_by o status ≡ Some commit → status ≡ Done commit
wanted_is (Some file) status commit e = absurd (cc)
wanted_is None InProgress commit e = absurd (cc)
wanted_is None (Done c) commit e = cc
wanted_is None Abandoned commit e = absurd (cc)

-- the file of the commit that is wanted stands
pub wanted_stands : (setup : Setup) (past : Past) (i : Instance) (p : Partition) (q : Sequence) (c : CommittedSegment) (commit : Commit) → IsPast setup past
    → IsCommittedOver setup past i p q c → wanted_by c.file c.done.meta.status ≡ Some commit
    → (c.done.meta.status ≡ Done commit) × IsStored setup past p q c.done.meta.start commit
wanted_stands setup past i p q c commit right k e =
    let d = done_stored setup past p q c.done right k.done in
    let status = wanted_is c.file c.done.meta.status commit e in
    (status, subst (IsStored setup past p q c.done.meta.start) (same_commit d.commit commit (sym d.status ∙ status)) d.stored)

module _ (setup : Setup) (past : Past) (before after : Meaning) (right : IsPast setup past) (shown : past.files ≡ after.seen) (i : Instance) (p : Partition) (q : Sequence)
    (c : CommittedSegment) (k : IsCommittedOver setup past i p q c) where
  got_as : (commit : Commit) (stored : IsStored setup past p q c.done.meta.start commit) (answer : Result (List ℕ) DeepRefused) → Gets before after commit.path answer
      → LoadsAs stored.right.file.segment (got setup.schema (header_by p q c.done commit) answer)
  got_as commit stored answer gets =
      loads_as setup past p q c.done commit stored answer
      (gives before after commit.path stored.bytes answer gets (subst (λ (fs : List DeepPut). Stands fs commit.path stored.bytes) shown stored.stands))

  loads_never_bad : (o : Option Commit) → wanted_by c.file c.done.meta.status ≡ o → (next : CommittedSegment) (wanted : Header) (found : Option Header)
      → LoadsOf o before after setup.schema p q c next (Err (BadFile wanted found)) → ⊥
  loads_never_bad None is next wanted found h = bad_due wanted found h.1
  loads_never_bad (Some commit) is next wanted found h =
      let w = wanted_stands setup past i p q c commit right k is in
      never_bad_by w.1.right.file.segment c wanted found (got setup.schema (header_by p q c.done commit) h.0) (got_as commit w.1 h.0 h.1) h.2.0

-- ---- the call

module _ (setup : Setup) (past : Past) (before after : Meaning) (old new : ServerState) (p : Partition) (q : Sequence)
    (shown : past.files ≡ after.seen) (right : IsPast setup past) (k : IsServerOver setup past old) where
  at_never_bad : (o : Option Entry) (wanted : Header) (found : Option Header) → entry_of old.table p q ≡ o
      → DownloadsAt (committed_at o) before after setup.schema old.table new.table p q (Err (BadFile wanted found)) → ⊥
  at_never_bad None wanted found there h = bad_due wanted found h.1
  at_never_bad (Some (Replica r)) wanted found there h = bad_due wanted found h.1
  at_never_bad (Some (Committed c)) wanted found there h =
      let over : IsCommittedOver setup past old.numbers.instance p q c = found_over setup past old k p q (Committed c) there in
      loads_never_bad setup past before after right shown old.numbers.instance p q c over (wanted_by c.file c.done.meta.status) refl h.0 wanted found h.1

  of_schema : (result : Result ℕ ServerRefused) → Downloads before after old.setup.schema old.table new.table p q result → Downloads before after setup.schema old.table new.table p q result
  of_schema result h = subst (λ (x : Setup). Downloads before after x.schema old.table new.table p q result) k.of_setup h

  -- no download meets a file that isn't the one that is wanted
  pub downloads_never_bad : (wanted : Header) (found : Option Header) → Downloads before after old.setup.schema old.table new.table p q (Err (BadFile wanted found)) → ⊥
  downloads_never_bad wanted found h = at_never_bad (entry_of old.table p q) wanted found refl (of_schema (Err (BadFile wanted found)) h)
