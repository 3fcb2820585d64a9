-- Over a right past, what a server has of its own is all that lasts of it.
use Rattle.std.proofs.Common.{◌≡◌, ◌<◌, ◌≤◌, inl, inr, ℕ, length, sym, subst, ◌∙◌}
use Rattle.rt_base.specs.declared.numbers.Instance.{Instance}
use Rattle.rt_base.specs.declared.numbers.Partition.{Partition}
use Rattle.rt_base.specs.declared.numbers.Sequence.{Sequence}
use Rattle.rt_segment.specs.Segment.{SealedSegment}
use Rattle.rt_model.specs.declared.commit.Commit.{Commit}
use Rattle.rt_model.specs.declared.seg_meta.SeenMeta.{SeenMeta}
use Rattle.rt_model.specs.declared.setup.Setup.{Setup}
use Rattle.rt_model.specs.declared.status.Status.TheVariants.{Done}
use Rattle.rt_past.specs.Past.{Past}
use Rattle.rt_past.specs.Files.{IsStored}
use Rattle.rt_past.specs.IsPast.{IsPast}
use Rattle.rt_past.specs.Segments.{WasDone}
use Rattle.rt_replica.proofs.ReadBack.{placed_back, told_back, replica_back, replica_forget}
use Rattle.rt_entry.specs.declared.entry.CommittedSegment.{CommittedSegment}
use Rattle.rt_entry.specs.declared.entry.Entry.{Entry}
use Rattle.rt_entry.specs.declared.entry.Entry.TheVariants.{Replica, Committed}
use Rattle.rt_server.specs.Lasting.{IsLoaded, IsCommittedOver, IsEntryOver, IsServerOver}
use Rattle.rt_server.specs.Own.{IsGot, IsHad, IsOwnCommitted, IsOwnEntry, IsOwnServer}
use Rattle.rt_server.specs.Table.{Segment, ServerState}
use Rattle.rt_server.proofs.LastingGrows.{if_each}
use Rattle.rt_server.proofs.LastingTargets.{done_stored}
use Rattle.rt_server.proofs.Trues.{got_loaded}

same_commit : (c d : Commit) → Done c ≡ Done d → c ≡ d
same_commit c d e = cc

module _ (setup : Setup) (past : Past) (k : IsPast setup past) where
  got_back : (p : Partition) (q : Sequence) (done : SeenMeta) (file : SealedSegment) → WasDone past.history p q done → IsGot setup past p q done file → IsLoaded setup past p q done file
  got_back p q done file was g =
      let c = done_stored setup past p q done k was in
      got_loaded setup past p q done file g (subst (IsStored setup past p q done.meta.start) (same_commit c.commit g.commit (sym c.status ∙ g.status)) c.stored)

  had_back : (p : Partition) (q : Sequence) (done : SeenMeta) → WasDone past.history p q done → (file : SealedSegment) → IsHad setup past p q done file → IsLoaded setup past p q done file
  had_back p q done was file (inl loaded) = loaded
  had_back p q done was file (inr got) = got_back p q done file was got

  committed_back : (i : Instance) (p : Partition) (q : Sequence) (c : CommittedSegment) → IsOwnCommitted setup past i p q c → IsCommittedOver setup past i p q c
  committed_back i p q c o =
      let place = placed_back setup past k i p q o.placed in
      let was = told_back setup past k p q c.done o.done in
      record {
        partition = o.partition;
        assigned = place.0;
        entered = place.1;
        done = was;
        loaded = if_each (IsHad setup past p q c.done) (IsLoaded setup past p q c.done) c.file (had_back p q c.done was) o.had;
      }

  entry_back : (i : Instance) (incarnation : ℕ) (s : Segment) (e : Entry) → IsOwnEntry setup past i incarnation s e → IsEntryOver setup past i incarnation s e
  entry_back i incarnation s (Replica r) h = (h.0, replica_back setup past k i incarnation r h.1)
  entry_back i incarnation s (Committed c) h = committed_back i s.0 s.1 c h

  pub server_back : (s : ServerState) → IsOwnServer setup past s → s.numbers.instance.0 < setup.servers → s.numbers.made ≤ length past.sent → IsServerOver setup past s
  server_back s o exists counted = record {
    of_setup = o.of_setup;
    kept = o.kept;
    exists = exists;
    incarnation = o.incarnation;
    counted = counted;
    targets = o.targets;
    entries = λ x has. entry_back s.numbers.instance s.numbers.incarnation x.0 x.1 (o.entries x has);
  }

module _ (setup : Setup) (past : Past) where
  entry_forget : (i : Instance) (incarnation : ℕ) (s : Segment) (e : Entry) → IsEntryOver setup past i incarnation s e → IsOwnEntry setup past i incarnation s e
  entry_forget i incarnation s (Replica r) h = (h.0, replica_forget setup past i incarnation r h.1)
  entry_forget i incarnation s (Committed c) h = record {
    partition = h.partition;
    placed = inr (h.assigned, h.entered);
    done = inl h.done;
    had = if_each (IsLoaded setup past s.0 s.1 c.done) (IsHad setup past s.0 s.1 c.done) c.file (λ file loaded. inl loaded) h.loaded;
  }

  pub server_forget : (s : ServerState) → IsServerOver setup past s → IsOwnServer setup past s
  server_forget s k = record {
    of_setup = k.of_setup;
    kept = k.kept;
    incarnation = k.incarnation;
    targets = k.targets;
    entries = λ x has. entry_forget s.numbers.instance s.numbers.incarnation x.0 x.1 (k.entries x has);
  }
