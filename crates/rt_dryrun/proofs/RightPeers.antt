-- A server that loaded a segment's file is a right peer of it.
use Rattle.std.proofs.Common.{◌≡◌, ◌==◌, ℕ, inl, inr, Bool, true, false, cond, List, [], ◌∷◌, Option, Some, None, slice_get, refl, sym, ap, subst, ◌∙◌}
use Rattle.std.specs.Prelude.{◌<◌, IfSome}
use Rattle.std.proofs.lemmas.Bool.{eqb-true}
use Rattle.rt_base.specs.declared.numbers.Instance.{Instance}
use Rattle.rt_base.specs.declared.numbers.Partition.{Partition}
use Rattle.rt_base.specs.declared.numbers.Sequence.{Sequence}
use Rattle.rt_lists.specs.Members.{Has}
use Rattle.rt_model.specs.Laws.{IsEnding}
use Rattle.rt_model.specs.Metadata.{IsDoneStatus, listed_write, metadata_of}
use Rattle.rt_model.specs.declared.commit.Commit.{Commit}
use Rattle.rt_model.specs.declared.node.Listed.{Listed}
use Rattle.rt_model.specs.declared.node.Node.{Node}
use Rattle.rt_model.specs.declared.node.Node.TheVariants as node
use Rattle.rt_model.specs.declared.node.Seen.{Seen}
use Rattle.rt_model.specs.declared.seg_meta.SegMeta.{SegMeta}
use Rattle.rt_model.specs.declared.seg_meta.SeenMeta.{SeenMeta}
use Rattle.rt_model.specs.declared.setup.Setup.{Setup}
use Rattle.rt_model.specs.declared.status.Status.TheVariants.{Done}
use Rattle.rt_model.proofs.Chains.{IsDone-final}
use Rattle.rt_model.proofs.Lawful.{has_endings}
use Rattle.rt_model.proofs.Listings.{listed_has}
use Rattle.rt_segment.specs.Segment.{SealedSegment}
use Rattle.rt_segment.specs.Spelling.{file_of, header_of}
use Rattle.rt_store.specs.Contents.{starting_of}
use Rattle.rt_stream.specs.Log.{messages_of}
use Rattle.rt_past.specs.Past.{Past}
use Rattle.rt_past.specs.IsPast.{IsPast}
use Rattle.rt_past.specs.Segments.{WasDone}
use Rattle.rt_peer.specs.Files.{header_by}
use Rattle.rt_peer.specs.RightPeer.{IsRightCopy, IsRightPeer}
use Rattle.rt_entry.specs.declared.entry.CommittedSegment.{CommittedSegment}
use Rattle.rt_entry.specs.declared.entry.Entry.TheVariants.{Committed}
use Rattle.rt_server.specs.Lasting.{IsCommittedOver}
use Rattle.rt_server.specs.Table.{entry_of, file_at}
use Rattle.rt_server.proofs.LastingCopies.{loaded_right}
use Rattle.rt_server.proofs.LastingEntries.{found_over}
use Rattle.rt_nodes.specs.declared.server_node.ServerNode.{ServerNode}
use Rattle.rt_nodes.specs.Reading.{file_bytes, file_in}
use Rattle.rt_state.specs.IsSafe.{past_of}
use Rattle.rt_state.specs.IsSafeWorld.{IsSafeWorld}
use Rattle.rt_state.specs.declared.state.State.{State}
use Rattle.rt_dryrun.specs.Peers.{meta_in, peer_meaning, server_copy}

-- ---- what the store has of a segment

-- the metadata that is found of a sequence was listed
record IsListed (ls : List Listed) (q : Sequence) (meta : SegMeta) : Type 0 where
  node : Listed
  has : Has ls node
  of : node.sequence ≡ q
  is : node.seen.meta ≡ meta

meta_listed : (ls : List Listed) (q : Sequence) (meta : SegMeta) → meta_in ls q ≡ Some meta → IsListed ls q meta
meta_listed [] q meta e = absurd (cc)
meta_listed (l ∷ ls) q meta e = by_test (l.sequence.0 == q.0) refl (λ found. meta_listed ls q meta found) e
  where
    by_test : (b : Bool) → (l.sequence.0 == q.0) ≡ b → (meta_in ls q ≡ Some meta → IsListed ls q meta)
        → cond b (Some l.seen.meta) (meta_in ls q) ≡ Some meta → IsListed (l ∷ ls) q meta
    by_test true same behind found =
        record { node = l; has = inl refl; of = ap (λ n. record { 0 = n }) (eqb-true l.sequence.0 q.0 same); is = cc }
    by_test false other behind found =
        let later = behind found in
        record { node = later.node; has = inr later.has; of = later.of; is = later.is }

-- ---- a commit is written once

abbrev meta_by : SegMeta → Node → SegMeta
meta_by other (node.Meta m) = m
meta_by other (node.Ideal i) = other
meta_by other node.Boot = other
meta_by other node.Gone = other

-- a lawful history has one commit of a segment
module _ (setup : Setup) (past : Past) (p : Partition) (q : Sequence) (right : IsPast setup past) (within : p.0 < setup.partitions) where
  ending : (seen : SeenMeta) → WasDone past.history p q seen → IsEnding past.history p q.0 (listed_write p (record { sequence = q; seen = seen }))
  ending seen was =
      record { has = was.0; is_of = refl; final = IsDone-final (node.Meta seen.meta) was.1 }

  one_commit : (a b : SeenMeta) → WasDone past.history p q a → WasDone past.history p q b → a.meta ≡ b.meta
  one_commit a b was also =
      let ends = has_endings (starting_of setup) past.history right.lawful p q.0 within in
      ap (λ (w : Seen). meta_by a.meta w.node) (ends.once _ _ (ending a was) (ending b also))

-- ---- the peer

module _ (w : State) (i : Instance) (n : ServerNode) (p : Partition) (q : Sequence) (c : CommittedSegment) (meta : SegMeta) (commit : Commit)
    (s : IsSafeWorld w) (there : slice_get w.servers i.0 ≡ Some n) (found : entry_of n.server.table p q ≡ Some (Committed c))
    (listed : meta_in (metadata_of w.store.writes p) q ≡ Some meta) (status : meta.status ≡ Done commit) where
  abbrev IsRight : List ℕ → Type 0
  IsRight = IsRightCopy w.setup (messages_of w.log p) (header_by p q meta commit)

  was_written : (l : IsListed (metadata_of w.store.writes p) q meta) → WasDone w.store.writes p q l.node.seen
  was_written l =
      let done : IsDoneStatus l.node.seen.meta.status =
      subst IsDoneStatus (sym (ap (λ (m : SegMeta). m.status) l.is ∙ status)) tt in (
        subst (λ (at : Sequence). Has w.store.writes (listed_write p (record { sequence = at; seen = l.node.seen }))) l.of
            (listed_has w.store.writes p l.node l.has),
        done,
      )

  right_copy : (file : SealedSegment) → c.file ≡ Some file → IsRight (file_of file)
  right_copy file is =
      let past = past_of w in
      let k = (s.safe.servers i.0 n there).over in
      let over : IsCommittedOver w.setup past n.server.numbers.instance p q c = found_over w.setup past n.server k p q (Committed c) found in
      let l = meta_listed (metadata_of w.store.writes p) q meta listed in
      let same : c.done.meta ≡ meta =
      one_commit w.setup past p q s.safe.past over.partition c.done l.node.seen over.done (was_written l) ∙ l.is in
      let copy = loaded_right w.setup past n.server p q c file commit s.safe.past k found is (ap (λ (m : SegMeta). m.status) same ∙ status) in
      subst (λ (m : SegMeta). IsRightCopy w.setup (messages_of w.log p) (header_by p q m commit) (file_of file)) same
      (record {
        built = record { file = copy.right.file; format = copy.right.format; indexed = copy.right.indexed };
        header = ap header_of copy.same ∙ copy.header;
      })

  by_file : (up : Bool) (o : Option SealedSegment) → c.file ≡ o → IfSome (file_bytes (cond up o None)) IsRight
  by_file false o is = tt
  by_file true None is = tt
  by_file true (Some file) is = right_copy file is

  pub loaded_is_right : IsRightPeer w.setup (messages_of w.log p) (header_by p q meta commit) (peer_meaning (server_copy w i))
  loaded_is_right =
      subst (λ o. IfSome (file_bytes (file_in o p q)) IsRight) (sym there)
      (subst (λ o. IfSome (file_bytes (cond n.up (file_at o) None)) IsRight) (sym found) (by_file n.up c.file refl))
