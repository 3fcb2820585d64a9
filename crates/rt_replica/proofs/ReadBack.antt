-- Over a right past, what a replica has of its own is all that lasts of it.
use Rattle.std.proofs.Common.{◌≡◌, ◌<◌, ◌^◌, inl, inr, ℕ, List, sym, ap, subst, ◌∙◌, arith}
use Rattle.rt_base.specs.declared.numbers.Instance.{Instance}
use Rattle.rt_base.specs.declared.numbers.Offset.{Offset}
use Rattle.rt_base.specs.declared.numbers.Partition.{Partition}
use Rattle.rt_base.specs.declared.numbers.Sequence.{Sequence}
use Rattle.rt_lists.specs.Members.{Has}
use Rattle.rt_model.specs.declared.asked.Asked.{Asked}
use Rattle.rt_model.specs.declared.ideal_state.IdealEntry.{IdealEntry}
use Rattle.rt_model.specs.declared.node.Key.{Key}
use Rattle.rt_model.specs.declared.node.Node.{Node}
use Rattle.rt_model.specs.declared.node.Node.TheVariants as node
use Rattle.rt_model.specs.declared.request.Request.{Request}
use Rattle.rt_model.specs.declared.request.RequestKind.{RequestKind}
use Rattle.rt_model.specs.declared.request.RequestKind.TheVariants as kind
use Rattle.rt_model.specs.declared.seg_meta.SeenMeta.{SeenMeta}
use Rattle.rt_model.specs.declared.setup.Setup.{Setup}
use Rattle.rt_model.specs.Entries.{entries_by}
use Rattle.rt_segment.specs.Segment.{SealedSegment}
use Rattle.rt_segment.specs.Spelling.{file_of}
use Rattle.rt_past.specs.Past.{Past}
use Rattle.rt_past.specs.IsPast.{IsPast}
use Rattle.rt_past.specs.Replies.{IsStatus}
use Rattle.rt_past.specs.Requests.{IsKind, IsRequest}
use Rattle.rt_past.specs.Segments.{HadEntry, IsAssignedTo, IsBegun, IsIncarnation, WasDone}
use Rattle.rt_past.specs.Writes.{IsRightEntry, IsRightNode}
use Rattle.rt_past.proofs.Sound.{told_done}
use Rattle.rt_consumer.specs.declared.consumer.Consumer.{Consumer}
use Rattle.rt_replica.specs.Lasting.{HasUploaded, IsReplica}
use Rattle.rt_replica.specs.Own.{HadPlace, IsPlaced, WasTold, IsUp, IsOwnReplica, IsOwnKind, IsOwnRequest}
use Rattle.rt_replica.proofs.Answered.{uploaded_at}
use Rattle.rt_replica.proofs.Begins.{begun_within}
use Rattle.rt_replica.proofs.SoFar.{forget, back}
use Rattle.rt_replica.proofs.Told.{told_in_each}
use Rattle.rt_model.proofs.Entries.{names_entry}

module _ (setup : Setup) (past : Past) (k : IsPast setup past) where
  -- ---- a place

  right_entry : (w : Key) (n : Node) (e : IdealEntry) → IsRightNode setup past w n → Has (entries_by n) e → IsRightEntry setup e
  right_entry w (node.Ideal ideal) e right has = right e has
  right_entry w (node.Meta m) e right has = absurd has
  right_entry w node.Boot e right has = absurd has
  right_entry w node.Gone e right has = absurd has

  assigned_back : (i : Instance) (p : Partition) (s : Sequence) → HadPlace past.history i p s → IsAssignedTo setup p i
  assigned_back i p s h =
      let right = right_entry h.write.key h.write.node h.entry (k.writes h.write h.is.has) h.has in
      subst (λ x. IsAssignedTo setup x i) h.names.0 (subst (λ j. IsAssignedTo setup h.entry.partition j) h.names.2 right.1)

  entered_back : (i : Instance) (p : Partition) (s : Sequence) → HadPlace past.history i p s → HadEntry past.history p s
  entered_back i p s h = (h.write, h.is, names_entry (entries_by h.write.node) p s (h.entry, h.has, h.names.0, ap (λ (x : Sequence). x.0) h.names.1))

  pub placed_back : (i : Instance) (p : Partition) (s : Sequence) → IsPlaced setup past.history i p s → IsAssignedTo setup p i × HadEntry past.history p s
  placed_back i p s (inl h) = (assigned_back i p s h, entered_back i p s h)
  placed_back i p s (inr both) = both

  -- ---- what was told

  pub told_back : (p : Partition) (s : Sequence) (done : SeenMeta) → WasTold past p s done → WasDone past.history p s done
  told_back p s done (inl was) = was
  told_back p s done (inr c) =
      subst (λ z. WasDone past.history p z done) c.segment.1
      (subst (λ z. WasDone past.history z c.reply.sequence done) c.segment.0 (told_done setup past k c.reply done c.taken c.carries))

  up_back : (i : Instance) (incarnation : ℕ) (p : Partition) (s : Sequence) (start x : Offset) (built : SealedSegment) (path : List ℕ) → p.0 < setup.partitions → IsBegun past.history p s start
      → IsUp setup past i incarnation p s start x built path → HasUploaded setup past i incarnation p s start x built path
  up_back i incarnation p s start x built path within begun (inl stands) = stands
  up_back i incarnation p s start x built path within begun (inr a) =
      let y = k.replies a.reply a.taken in
      let asked = a.asked in
      let one : y.request ≡ asked.request = k.unique y.request asked.request y.was_sent asked.was_sent (ap (λ (z : Asked). z.number) y.answers ∙ sym asked.numbered) in
      uploaded_at setup past k i incarnation p s start within begun x a.reply.number built a.own path asked
      (subst (IsStatus past asked.request) a.status (subst (λ z. IsStatus past z a.reply.status) one y.status))

  pub replica_back : (i : Instance) (incarnation : ℕ) (r : Consumer) → IsOwnReplica setup past i incarnation r → IsReplica setup past i incarnation r
  replica_back i incarnation r o =
      let place = placed_back i r.partition r.sequence o.placed in
      record {
        settings = o.settings;
        partition = o.partition;
        assigned = place.0;
        entered = place.1;
        begun = o.begun;
        named = o.named;
        held = back past.log r (begun_within setup past r.partition k o.partition r.sequence r.start o.begun) o.held;
        told = told_in_each (WasTold past r.partition r.sequence) (WasDone past.history r.partition r.sequence) (IsUp setup past i incarnation r.partition r.sequence r.start) (HasUploaded setup past i incarnation r.partition r.sequence r.start)
            (told_back r.partition r.sequence) (λ x built path. up_back i incarnation r.partition r.sequence r.start x built path o.partition o.begun) r.phase o.told;
        waited = o.waited;
      }

  kind_back : (q : Request) (start : Offset) (asks : RequestKind) → q.partition.0 < setup.partitions → IsBegun past.history q.partition q.sequence start → IsOwnKind setup past q start asks → IsKind setup past q start asks
  kind_back q start kind.Stopped within begun h = h
  kind_back q start (kind.Consumed reason) within begun h = h
  kind_back q start kind.CommitStart within begun h = h
  kind_back q start (kind.Extend millis) within begun h = h
  kind_back q start (kind.Upload path bytes) within begun h = h
  kind_back q start (kind.CommitEnd path) within begun (built, up) =
      let u = up_back q.number.instance q.number.incarnation q.partition q.sequence start q.offset built path within begun up in (file_of built, u.stands, u.right)

  pub request_back : (q : Request) → IsOwnRequest setup past q → IsIncarnation past.history q.number.instance q.number.incarnation → q.number.count < 2 ^ 64 → IsRequest setup past q
  request_back q o lived small =
      let place = placed_back q.number.instance q.partition q.sequence o.placed in
      let first = begun_within setup past q.partition k o.partition q.sequence o.start o.begun in
      record {
        partition = o.partition;
        assigned = place.0;
        incarnation = lived;
        count = small;
        entered = place.1;
        start = o.start;
        begun = o.begun;
        within = omega (arith, first, o.within);
        kind = kind_back q o.start q.kind o.partition o.begun o.kind;
      }

module _ (setup : Setup) (past : Past) (i : Instance) (incarnation : ℕ) where
  pub replica_forget : (r : Consumer) → IsReplica setup past i incarnation r → IsOwnReplica setup past i incarnation r
  replica_forget r k = record {
    settings = k.settings;
    partition = k.partition;
    placed = inr (k.assigned, k.entered);
    begun = k.begun;
    named = k.named;
    held = forget past.log r k.held;
    told = told_in_each (WasDone past.history r.partition r.sequence) (WasTold past r.partition r.sequence) (HasUploaded setup past i incarnation r.partition r.sequence r.start) (IsUp setup past i incarnation r.partition r.sequence r.start)
        (λ done was. inl was) (λ x built path stands. inl stands) r.phase k.told;
    waited = k.waited;
  }
