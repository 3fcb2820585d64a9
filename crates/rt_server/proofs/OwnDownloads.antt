-- A download keeps what a server has of its own: the file is as the deep store gave it.
use Rattle.std.proofs.Common.{◌≡◌, inr, ℕ, List, Option, Some, None, Result, Ok, Err, refl, sym, ap, subst}
use Rattle.rt_base.specs.declared.numbers.Instance.{Instance}
use Rattle.rt_base.specs.declared.numbers.Partition.{Partition}
use Rattle.rt_base.specs.declared.numbers.Sequence.{Sequence}
use Rattle.rt_segment.specs.Segment.{SealedSegment}
use Rattle.rt_model.specs.declared.commit.Commit.{Commit}
use Rattle.rt_model.specs.declared.setup.Setup.{Setup}
use Rattle.rt_model.specs.declared.status.Status.TheVariants.{Done}
use Rattle.rt_deep.specs.declared.deep_put.DeepPut.{DeepPut}
use Rattle.rt_deep.specs.declared.refused.DeepRefused.{DeepRefused}
use Rattle.rt_deep.specs.Calls.{Gets}
use Rattle.rt_deep.specs.Meaning.{Meaning}
use Rattle.rt_deep.proofs.Seeing.{get_seen}
use Rattle.rt_past.specs.Past.{Past}
use Rattle.rt_past.specs.Files.{Stands}
use Rattle.rt_entry.specs.declared.entry.CommittedSegment.{CommittedSegment}
use Rattle.rt_entry.specs.declared.entry.Entry.{Entry}
use Rattle.rt_entry.specs.declared.entry.Entry.TheVariants.{Replica, Committed}
use Rattle.rt_entry.specs.declared.refused.ServerRefused.{ServerRefused}
use Rattle.rt_entry.specs.declared.refused.ServerRefused.TheVariants.{NotDue, StoreFault, BadFile, Memory}
use Rattle.rt_entry.specs.Calls.{Comes}
use Rattle.rt_entry.specs.Download.{LoadsOf, got, header_by, loaded_by}
use Rattle.rt_entry.specs.Entry.{wanted_by}
use Rattle.rt_entry.proofs.Loading.{IsReadOf, got_is}
use Rattle.rt_server.specs.Calls.{InTable}
use Rattle.rt_server.specs.Download.{Downloads, DownloadsAt, committed_at}
use Rattle.rt_server.specs.Kept.{IsServer}
use Rattle.rt_server.specs.Own.{IsGot, IsOwnCommitted, IsOwnServer}
use Rattle.rt_server.specs.Table.{ServerState, entry_of, with_table}
use Rattle.rt_server.proofs.LastingDownloads.{wanted_is, with_it}
use Rattle.rt_server.proofs.LastingEntries.{in_table}
use Rattle.rt_server.proofs.Loaded.{downloaded_is}
use Rattle.rt_server.proofs.OwnPuts.{found_own, put_own}

abbrev gives : List ℕ → Result (List ℕ) DeepRefused
gives bytes = Ok bytes

abbrev loads : SealedSegment → Result SealedSegment ServerRefused
loads file = Ok file

abbrev came : ℕ → CommittedSegment → Result (ℕ × CommittedSegment) ServerRefused
came rows next = Ok (rows, next)

abbrev refuse : ServerRefused → Result (ℕ × CommittedSegment) ServerRefused
refuse e = Err e

abbrev next_in : CommittedSegment → Result (ℕ × CommittedSegment) ServerRefused → CommittedSegment
next_in other (Ok x) = x.1
next_in other (Err e) = other

same_came : (n m : ℕ) (a b : CommittedSegment) → came n a ≡ came m b → a ≡ b
same_came n m a b e = ap (next_in a) e

no_came : (e : ServerRefused) (n : ℕ) (c : CommittedSegment) → refuse e ≡ came n c → ⊥
no_came e n c h = cc

-- what came has a file that was loaded
loaded : (c next : CommittedSegment) (rows : ℕ) (g : Result SealedSegment ServerRefused) → loaded_by c g ≡ came rows next
    → (file : SealedSegment) × (g ≡ loads file) × (next ≡ with_it c file)
loaded c next rows (Ok file) e = (file, refl, sym (same_came file.rows rows (with_it c file) next e))
loaded c next rows (Err r) e = absurd (no_came r rows next e)

module _ (setup : Setup) (view : Past) (before after : Meaning) (shown : view.files ≡ after.seen) (i : Instance) (p : Partition) (q : Sequence)
    (c : CommittedSegment) (k : IsOwnCommitted setup view i p q c) where
  with_file : (file : SealedSegment) → IsGot setup view p q c.done file → IsOwnCommitted setup view i p q (with_it c file)
  with_file file given = record { partition = k.partition; placed = k.placed; done = k.done; had = inr given }

  read_got : (commit : Commit) → c.done.meta.status ≡ Done commit → (answer : Result (List ℕ) DeepRefused) → Gets before after commit.path answer
      → (file : SealedSegment) → IsReadOf setup.schema (header_by p q c.done commit) answer file → IsGot setup view p q c.done file
  read_got commit status answer gets file r =
      let there = get_seen before after commit.path r.bytes (subst (Gets before after commit.path) r.answered gets) in
      record {
        commit = commit;
        status = status;
        bytes = r.bytes;
        stands = subst (λ (fs : List DeepPut). Stands fs commit.path r.bytes) (sym shown) there;
        read = r.read;
        header = r.header;
        columns = r.columns;
      }

  comes_with : (commit : Commit) → c.done.meta.status ≡ Done commit → (answer : Result (List ℕ) DeepRefused) → Gets before after commit.path answer
      → (next : CommittedSegment) (result : Result ℕ ServerRefused) → Comes (loaded_by c (got setup.schema (header_by p q c.done commit) answer)) c next result
      → IsOwnCommitted setup view i p q next
  comes_with commit status answer gets next (Ok rows) h =
      let l = loaded c next rows (got setup.schema (header_by p q c.done commit) answer) h in
      subst (IsOwnCommitted setup view i p q) (sym l.2)
      (with_file l.0 (read_got commit status answer gets l.0 (got_is setup.schema (header_by p q c.done commit) answer l.0 l.1)))
  comes_with commit status answer gets next (Err NotDue) h = subst (IsOwnCommitted setup view i p q) (sym h.1) k
  comes_with commit status answer gets next (Err StoreFault) h = subst (IsOwnCommitted setup view i p q) (sym h.1) k
  comes_with commit status answer gets next (Err (BadFile wanted found)) h = subst (IsOwnCommitted setup view i p q) (sym h.1) k
  comes_with commit status answer gets next (Err Memory) h = subst (IsOwnCommitted setup view i p q) (sym h.1) k

  loads_own : (o : Option Commit) → wanted_by c.file c.done.meta.status ≡ o → (next : CommittedSegment) (result : Result ℕ ServerRefused)
      → LoadsOf o before after setup.schema p q c next result → IsOwnCommitted setup view i p q next
  loads_own None is next result h = subst (IsOwnCommitted setup view i p q) (sym h.2) k
  loads_own (Some commit) is next result h = comes_with commit (wanted_is c.file c.done.meta.status commit is) h.0 h.1 next result h.2

module _ (setup : Setup) (view : Past) (before after : Meaning) (old new : ServerState) (p : Partition) (q : Sequence) (shown : view.files ≡ after.seen)
    (k : IsOwnServer setup view old) where
  at_own : (o : Option Entry) (result : Result ℕ ServerRefused) → entry_of old.table p q ≡ o → DownloadsAt (committed_at o) before after setup.schema old.table new.table p q result
      → IsServer old.setup new.table → IsOwnServer setup view (with_table old new.table)
  at_own None result found h kept = subst (λ t. IsOwnServer setup view (with_table old t)) (sym h.2) k
  at_own (Some (Replica r)) result found h kept = subst (λ t. IsOwnServer setup view (with_table old t)) (sym h.2) k
  at_own (Some (Committed c)) result found h kept =
      let own : IsOwnCommitted setup view old.numbers.instance p q c = found_own setup view old k p q (Committed c) found in
      let next = loads_own setup view before after shown old.numbers.instance p q c own (wanted_by c.file c.done.meta.status) refl h.0 result h.1 in
      subst (λ t. IsOwnServer setup view (with_table old t)) (sym h.2)
      (put_own setup view old k p q (Committed h.0) (subst (IsServer old.setup) h.2 kept) next)

  of_schema : (result : Result ℕ ServerRefused) → Downloads before after old.setup.schema old.table new.table p q result → Downloads before after setup.schema old.table new.table p q result
  of_schema result h = subst (λ (x : Setup). Downloads before after x.schema old.table new.table p q result) k.of_setup h

  pub downloads_own : (result : Result ℕ ServerRefused) → Downloads before after old.setup.schema old.table new.table p q result → InTable old new → IsOwnServer setup view new
  downloads_own result h only =
      subst (IsOwnServer setup view) (in_table old new only)
      (at_own (entry_of old.table p q) result refl (of_schema result h) (downloaded_is old.setup before after old.table new.table p q result h k.kept))
