-- The sealed rows of a committed entry are right as a file.
use Rattle.std.proofs.Common.{◌≡◌, ◌<◌, Option, Some, None, IfSome, refl, sym, ap, subst, ◌∙◌, arith}
use Rattle.rt_base.specs.declared.numbers.Offset.{Offset}
use Rattle.rt_base.specs.declared.numbers.Partition.{Partition}
use Rattle.rt_base.specs.declared.numbers.Sequence.{Sequence}
use Rattle.rt_base.specs.declared.header.Header.{Header}
use Rattle.rt_base.specs.declared.range.Range.{Range}
use Rattle.rt_schema.specs.Row.{rows_in}
use Rattle.rt_segment.specs.Segment.{SealedSegment}
use Rattle.rt_stream.specs.Log.{messages_of}
use Rattle.rt_model.specs.declared.commit.Commit.{Commit}
use Rattle.rt_model.specs.declared.seg_meta.SeenMeta.{SeenMeta}
use Rattle.rt_model.specs.declared.setup.Setup.{Setup}
use Rattle.rt_model.specs.declared.status.Status.TheVariants.{Done}
use Rattle.rt_model.specs.Lawful.{IsLawfulHistory}
use Rattle.rt_store.specs.Contents.{starting_of}
use Rattle.rt_past.specs.Past.{Past}
use Rattle.rt_past.specs.Files.{range_to}
use Rattle.rt_past.specs.IsPast.{IsPast}
use Rattle.rt_past.specs.Segments.{IsBegun, WasDone}
use Rattle.rt_consumer.specs.declared.phase.CommittedFile.{CommittedFile}
use Rattle.rt_consumer.specs.declared.phase.Phase.{Phase}
use Rattle.rt_consumer.specs.declared.phase.Phase.TheVariants as phase
use Rattle.rt_consumer.specs.declared.settings.Settings.{Settings}
use Rattle.rt_consumer.specs.Consumer.{IsKept, IsPhase}
use Rattle.rt_replica.specs.Held.{HoldsFile, HoldsIn}
use Rattle.rt_replica.specs.Lasting.{ToldIn}
use Rattle.rt_consumer.specs.Serving as replica
use Rattle.rt_entry.specs.declared.entry.CommittedSegment.{CommittedSegment}
use Rattle.rt_entry.specs.declared.entry.Entry.{Entry}
use Rattle.rt_entry.specs.declared.entry.Entry.TheVariants.{Replica, Committed}
use Rattle.rt_entry.specs.Entry.{IsEntry, file_in}
use Rattle.rt_server.specs.Lasting.{IsCommittedOver, IsLoaded, IsServerOver}
use Rattle.rt_server.specs.LastingRows.{IsLoadedCopy, IsRightCopy}
use Rattle.rt_server.specs.Table.{Segment, ServerState, entry_of, file_at}
use Rattle.rt_server.proofs.Kept.{found_is}
use Rattle.rt_server.proofs.LastingEntries.{found_over}
use Rattle.rt_server.proofs.LastingTargets.{commit_past, done_stored}
use Rattle.rt_server.proofs.Trues.{AnyUp, replica_true}

abbrev the_file : SealedSegment → Option SealedSegment
the_file file = Some file

same_file : (a b : SealedSegment) → the_file a ≡ the_file b → a ≡ b
same_file a b e = cc

no_file : (a : SealedSegment) → None ≡ the_file a → ⊥
no_file a e = cc

-- a whole file with the stream's rows, of a commit that was written
kept_copy : (setup : Setup) (past : Past) (p : Partition) (q : Sequence) (start : Offset) (kept : CommittedFile) → IsLawfulHistory (starting_of setup) past.history → p.0 < setup.partitions
    → IsBegun past.history p q start → WasDone past.history p q kept.done → IsKept setup.schema p q start kept
    → HoldsFile setup.schema (messages_of past.log p) start kept.file → IsRightCopy setup past p q kept.file
kept_copy setup past p q start kept lawful within begun was is h =
    let end = kept.file.range.end in
    let from = commit_past setup past p q kept.done start end lawful within was begun is.told in
    record {
      done = kept.done;
      was = was;
      end = end;
      told = is.told;
      right = record {
        segment = kept.file;
        «sealed» = is.whole;
        spelled = refl;
        header = (is.segment.0, is.segment.1, ap (λ x. range_to x end) (is.first ∙ sym from.0));
        within = (omega (arith, from.1, ap (λ (x : Offset). x.0) from.0), h.within);
        columns = is.columns;
        rows = h.rows ∙ ap (λ (x : Offset). rows_in setup.schema (messages_of past.log p) x.0 end.0) (sym from.0);
      };
    }

module _ (setup : Setup) (past : Past) (p : Partition) (q : Sequence) (start : Offset) (file : SealedSegment) (lawful : IsLawfulHistory (starting_of setup) past.history)
    (within : p.0 < setup.partitions) (begun : IsBegun past.history p q start) where
  copy_of : (kept : CommittedFile) → the_file kept.file ≡ the_file file → WasDone past.history p q kept.done → IsKept setup.schema p q start kept
      → HoldsFile setup.schema (messages_of past.log p) start kept.file → IsRightCopy setup past p q file
  copy_of kept e was is h =
      subst (IsRightCopy setup past p q) (same_file kept.file file e) (kept_copy setup past p q start kept lawful within begun was is h)

  phase_copy : (settings : Settings) (ph : Phase) → settings.schema ≡ setup.schema → IsPhase settings p q start ph → ToldIn (WasDone past.history p q) AnyUp ph
      → HoldsIn settings.schema (messages_of past.log p) start ph → replica.file_in ph ≡ the_file file → IsRightCopy setup past p q file
  phase_copy settings (phase.Retained kept) same is t h e =
      copy_of kept e t (subst (λ x. IsKept x p q start kept) same is) (subst (λ x. HoldsFile x (messages_of past.log p) start kept.file) same h)
  phase_copy settings (phase.Committed kept) same is t h e =
      copy_of kept e t (subst (λ x. IsKept x p q start kept) same is) (subst (λ x. HoldsFile x (messages_of past.log p) start kept.file) same h)
  phase_copy settings (phase.Unsealed o) same is t h e = absurd (no_file file e)
  phase_copy settings (phase.Discarded d) same is t h e = absurd (no_file file e)

loaded_copy : (setup : Setup) (past : Past) (p : Partition) (q : Sequence) (done : SeenMeta) (file : SealedSegment) → IsPast setup past → p.0 < setup.partitions
    → WasDone past.history p q done → (o : Option SealedSegment) → IfSome o (IsLoaded setup past p q done) → o ≡ the_file file → IsRightCopy setup past p q file
loaded_copy setup past p q done file right within was None l e = absurd (no_file file e)
loaded_copy setup past p q done file right within was (Some f) l e =
    let begun = (done_stored setup past p q done right was).stored.right.begun in
    copy_of setup past p q done.meta.start file right.lawful within begun (record { file = f; done = done }) e was l.kept l.held

module _ (setup : Setup) (past : Past) (s : ServerState) (p : Partition) (q : Sequence) (file : SealedSegment) (right : IsPast setup past) (k : IsServerOver setup past s) where
  entry_copy : (e : Entry) → entry_of s.table p q ≡ Some e → file_in e ≡ the_file file → IsRightCopy setup past p q file
  entry_copy (Replica r) found e =
      let over = found_over setup past s k p q (Replica r) found in
      let own : IsEntry s.setup (Replica r) = found_is s.setup s.table p q (Replica r) k.kept found in
      subst (λ (y : Segment). IsRightCopy setup past y.0 y.1 file) over.0
      (phase_copy setup past r.partition r.sequence r.start file right.lawful over.1.partition over.1.begun r.settings r.phase
      (ap (λ (x : Settings). x.schema) over.1.settings) own.0.phase (replica_true setup past s.numbers.instance s.numbers.incarnation r over.1).told over.1.held e)
  entry_copy (Committed c) found e =
      let over : IsCommittedOver setup past s.numbers.instance p q c = found_over setup past s k p q (Committed c) found in
      loaded_copy setup past p q c.done file right over.partition over.done c.file over.loaded e

  at_copy : (o : Option Entry) → entry_of s.table p q ≡ o → file_at o ≡ the_file file → IsRightCopy setup past p q file
  at_copy None found e = absurd (no_file file e)
  at_copy (Some x) found e = entry_copy x found e

  pub copies_right : file_at (entry_of s.table p q) ≡ Some file → IsRightCopy setup past p q file
  copies_right e = at_copy (entry_of s.table p q) refl e

-- a file that was loaded is right, and has the header that the commit names
pub loaded_right : (setup : Setup) (past : Past) (s : ServerState) (p : Partition) (q : Sequence) (c : CommittedSegment) (file : SealedSegment) (commit : Commit)
    → IsPast setup past → IsServerOver setup past s → entry_of s.table p q ≡ Some (Committed c) → c.file ≡ the_file file
    → c.done.meta.status ≡ Done commit → IsLoadedCopy setup past p q c.done.meta.start commit file
loaded_right setup past s p q c file commit right k found is status =
    let over : IsCommittedOver setup past s.numbers.instance p q c = found_over setup past s k p q (Committed c) found in
    let l : IsLoaded setup past p q c.done file = subst (λ o. IfSome o (IsLoaded setup past p q c.done)) is over.loaded in
    let start = c.done.meta.start in
    let begun = (done_stored setup past p q c.done right over.done).stored.right.begun in
    let from = commit_past setup past p q c.done start file.range.end right.lawful over.partition over.done begun l.kept.told in
    let named = l.named commit status in
    let range : file.range ≡ range_to start commit.end = ap (λ (h : Header). h.range) named in
    let end : file.range.end ≡ commit.end = ap (λ (r : Range). r.end) range in
    record {
      right = record {
        file = record {
          segment = file;
          «sealed» = l.kept.whole;
          spelled = refl;
          header = (l.kept.segment.0, l.kept.segment.1, range);
          within = (
            omega (arith, from.1, ap (λ (x : Offset). x.0) from.0, ap (λ (x : Offset). x.0) end),
            omega (arith, l.held.within, ap (λ (x : Offset). x.0) end),
          );
          columns = l.kept.columns;
          rows = l.held.rows ∙ ap (λ (x : Offset). rows_in setup.schema (messages_of past.log p) start.0 x.0) end;
        };
        begun = begun;
        format = l.format;
        indexed = l.indexed;
      };
      same = refl;
      header = named;
    }
