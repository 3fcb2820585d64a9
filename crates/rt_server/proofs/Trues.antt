-- What is true of the entries of a server that lasts, and of the entries of its own over a sound past.
use Rattle.std.proofs.Common.{◌≡◌, ◌<◌, inl, inr, ℕ, List, Option, Some, Result, Ok, IfSome, sym, ap, subst, ◌∙◌}
use Rattle.rt_base.specs.declared.numbers.Instance.{Instance}
use Rattle.rt_base.specs.declared.numbers.Offset.{Offset}
use Rattle.rt_base.specs.declared.numbers.Partition.{Partition}
use Rattle.rt_base.specs.declared.numbers.Sequence.{Sequence}
use Rattle.rt_segment.specs.Reading.{read_file}
use Rattle.rt_segment.specs.Segment.{SealedSegment}
use Rattle.rt_segment.proofs.FileLaws.{spelled_read}
use Rattle.rt_deep.specs.declared.deep_put.DeepPut.{DeepPut}
use Rattle.rt_model.specs.declared.seg_meta.SeenMeta.{SeenMeta}
use Rattle.rt_model.specs.declared.setup.Setup.{Setup}
use Rattle.rt_past.specs.Past.{Past}
use Rattle.rt_past.specs.Files.{IsStored}
use Rattle.rt_past.specs.Segments.{IsBegun, WasDone}
use Rattle.rt_past.specs.View.{IsSound}
use Rattle.rt_consumer.specs.declared.consumer.Consumer.{Consumer}
use Rattle.rt_consumer.specs.Consumer.{settings_of}
use Rattle.rt_replica.specs.Held.{IsHeld}
use Rattle.rt_replica.specs.Lasting.{HasUploaded, IsReplica, ToldIn}
use Rattle.rt_replica.specs.Own.{IsOwnReplica, IsUp, WasTold}
use Rattle.rt_replica.proofs.Begins.{sound_begun_within}
use Rattle.rt_replica.proofs.SoFar.{back}
use Rattle.rt_replica.proofs.Told.{told_in_each}
use Rattle.rt_entry.specs.declared.entry.CommittedSegment.{CommittedSegment}
use Rattle.rt_entry.specs.declared.entry.Entry.{Entry}
use Rattle.rt_entry.specs.declared.entry.Entry.TheVariants.{Replica, Committed}
use Rattle.rt_server.specs.Lasting.{IsEntryOver, IsLoaded}
use Rattle.rt_server.specs.Own.{IsGot, IsHad, IsOwnCommitted, IsOwnEntry}
use Rattle.rt_server.specs.Table.{Segment, segment_of}
use Rattle.rt_server.proofs.LastingDownloads.{file_loaded}
use Rattle.rt_server.proofs.LastingGrows.{if_each}

abbrev pub AnyUp : Offset → SealedSegment → List ℕ → Type 0
AnyUp x built path = Unit {0}

-- over the setup's schema it holds the stream's rows from where its segment's node was created, and a commit that it was told of
-- was written
pub record IsTrueReplica (setup : Setup) (past : Past) (r : Consumer) : Type 0 where
  pub settings : r.settings ≡ settings_of setup
  pub partition : r.partition.0 < setup.partitions
  pub begun : IsBegun past.history r.partition r.sequence r.start
  pub held : IsHeld past.log r
  pub told : ToldIn (WasDone past.history r.partition r.sequence) AnyUp r.phase

-- the commit was written, and its file is the commit's
pub record IsTrueCommitted (setup : Setup) (past : Past) (p : Partition) (q : Sequence) (c : CommittedSegment) : Type 0 where
  pub partition : p.0 < setup.partitions
  pub done : WasDone past.history p q c.done
  pub loaded : IfSome c.file (IsLoaded setup past p q c.done)

abbrev pub IsTrueEntry : Setup → Past → Segment → Entry → Type 0
IsTrueEntry setup past s (Replica r) = (segment_of r ≡ s) × IsTrueReplica setup past r
IsTrueEntry setup past s (Committed c) = IsTrueCommitted setup past s.0 s.1 c

-- ---- what lasts

module _ (setup : Setup) (past : Past) (i : Instance) (incarnation : ℕ) where
  pub replica_true : (r : Consumer) → IsReplica setup past i incarnation r → IsTrueReplica setup past r
  replica_true r k = record {
    settings = k.settings;
    partition = k.partition;
    begun = k.begun;
    held = k.held;
    told =
        told_in_each (WasDone past.history r.partition r.sequence) (WasDone past.history r.partition r.sequence)
        (HasUploaded setup past i incarnation r.partition r.sequence r.start) AnyUp (λ done was. was) (λ x built path up. tt) r.phase k.told;
  }

  pub entry_true : (s : Segment) (e : Entry) → IsEntryOver setup past i incarnation s e → IsTrueEntry setup past s e
  entry_true s (Replica r) h = (h.0, replica_true r h.1)
  entry_true s (Committed c) h = record { partition = h.partition; done = h.done; loaded = h.loaded }

-- ---- what is its own, over a sound past

abbrev a_put : List ℕ → List ℕ → Option DeepPut
a_put path bytes = Some (record { path = path; bytes = bytes })

same_bytes : (path a b : List ℕ) → a_put path a ≡ a_put path b → a ≡ b
same_bytes path a b e = ap (λ (f : DeepPut). f.bytes) (some_put (record { path = path; bytes = a }) (record { path = path; bytes = b }) e)
  where
    some_put : (f g : DeepPut) → Some f ≡ Some g → f ≡ g
    some_put f g e = cc

abbrev read_as : {E : Type 0} → SealedSegment → Result SealedSegment E
read_as file = Ok file

same_file : {E : Type 0} (f g : SealedSegment) → read_as {E = E} f ≡ read_as {E = E} g → f ≡ g
same_file f g e = cc

-- the bytes that were got are those of the file that is stored
pub got_loaded : (setup : Setup) (past : Past) (p : Partition) (q : Sequence) (done : SeenMeta) (file : SealedSegment) (g : IsGot setup past p q done file)
    → IsStored setup past p q done.meta.start g.commit → IsLoaded setup past p q done file
got_loaded setup past p q done file g stored =
    let f = stored.right.file in
    let bytes : g.bytes ≡ stored.bytes = same_bytes g.commit.path g.bytes stored.bytes (sym g.stands ∙ stored.stands) in
    let same : file ≡ f.segment = same_file file f.segment (sym g.read ∙ ap read_file (bytes ∙ f.spelled) ∙ spelled_read f.segment f.«sealed») in
    subst (IsLoaded setup past p q done) (sym same) (file_loaded setup past p q done g.commit stored g.status)

module _ (setup : Setup) (past : Past) (k : IsSound setup past) where
  -- a commit that was told of was written
  pub told_was : (p : Partition) (q : Sequence) (done : SeenMeta) → WasTold past p q done → WasDone past.history p q done
  told_was p q done (inl was) = was
  told_was p q done (inr c) =
      subst (λ z. WasDone past.history p z done) c.segment.1
      (subst (λ z. WasDone past.history z c.reply.sequence done) c.segment.0 (k.told c.reply done c.taken c.carries))

  -- what a replica holds so far it holds
  pub own_held : (i : Instance) (incarnation : ℕ) (r : Consumer) → IsOwnReplica setup past i incarnation r → IsHeld past.log r
  own_held i incarnation r o = back past.log r (sound_begun_within setup past r.partition k o.partition r.sequence r.start o.begun) o.held

  own_replica_true : (i : Instance) (incarnation : ℕ) (r : Consumer) → IsOwnReplica setup past i incarnation r → IsTrueReplica setup past r
  own_replica_true i incarnation r o = record {
    settings = o.settings;
    partition = o.partition;
    begun = o.begun;
    held = own_held i incarnation r o;
    told =
        told_in_each (WasTold past r.partition r.sequence) (WasDone past.history r.partition r.sequence)
        (IsUp setup past i incarnation r.partition r.sequence r.start) AnyUp (told_was r.partition r.sequence) (λ x built path up. tt) r.phase o.told;
  }

  pub had_loaded : (p : Partition) (q : Sequence) (done : SeenMeta) → p.0 < setup.partitions → WasDone past.history p q done → (file : SealedSegment)
      → IsHad setup past p q done file → IsLoaded setup past p q done file
  had_loaded p q done within was file (inl loaded) = loaded
  had_loaded p q done within was file (inr g) = got_loaded setup past p q done file g (k.done p q done g.commit within was g.status)

  own_committed_true : (i : Instance) (p : Partition) (q : Sequence) (c : CommittedSegment) → IsOwnCommitted setup past i p q c → IsTrueCommitted setup past p q c
  own_committed_true i p q c o =
      let was = told_was p q c.done o.done in
      record {
        partition = o.partition;
        done = was;
        loaded = if_each (IsHad setup past p q c.done) (IsLoaded setup past p q c.done) c.file (had_loaded p q c.done o.partition was) o.had;
      }

  pub own_true : (i : Instance) (incarnation : ℕ) (s : Segment) (e : Entry) → IsOwnEntry setup past i incarnation s e → IsTrueEntry setup past s e
  own_true i incarnation s (Replica r) h = (h.0, own_replica_true i incarnation r h.1)
  own_true i incarnation s (Committed c) h = own_committed_true i s.0 s.1 c h
