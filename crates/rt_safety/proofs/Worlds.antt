-- What is true of a safe world, for its reader.
use Rattle.std.proofs.Common.{◌≡◌, ◌<◌, ◌≤◌, List, [], ◌∷◌, Option, Some, None, refl, sym, ◌∙◌, ap, subst, slice_get, length, filter_map, inl, inr}
use Rattle.std.specs.List.{cons_option}
use Rattle.std.proofs.lemmas.Option.{none-some, same_Some}
use Rattle.rt_base.specs.declared.numbers.Instance.{Instance}
use Rattle.rt_base.specs.declared.numbers.Offset.{Offset}
use Rattle.rt_base.specs.declared.numbers.Partition.{Partition}
use Rattle.rt_base.specs.declared.numbers.Sequence.{Sequence}
use Rattle.rt_base.specs.declared.range.Range.{Range}
use Rattle.rt_deep.specs.declared.deep_put.DeepPut.{DeepPut}
use Rattle.rt_entry.specs.declared.entry.Entry.{Entry}
use Rattle.rt_entry.specs.declared.served_rows.ServedRows.{ServedRows}
use Rattle.rt_lists.specs.Members.{Has}
use Rattle.rt_model.specs.declared.commit.Commit.{Commit}
use Rattle.rt_model.specs.declared.node.Listed.{Listed}
use Rattle.rt_model.specs.declared.piece.Piece.{Piece}
use Rattle.rt_model.specs.declared.reply.Reply.{Reply}
use Rattle.rt_model.specs.declared.request.Request.{Request}
use Rattle.rt_model.specs.declared.seg_meta.SeenMeta.{SeenMeta}
use Rattle.rt_model.specs.declared.sent.Sent.TheVariants as sent
use Rattle.rt_model.specs.declared.status.Status.{Status}
use Rattle.rt_model.specs.declared.status.Status.TheVariants.{InProgress, Done, Abandoned}
use Rattle.rt_model.specs.Chain.{IsChain, deletions_of}
use Rattle.rt_model.specs.Metadata.{IsDoneStatus, listed_write, metadata_of, sequences_of}
use Rattle.rt_model.specs.Tiled.{IsTiled, committed_of, range_by}
use Rattle.rt_model.proofs.Lawful.{has_chains, has_tiles}
use Rattle.rt_model.proofs.Listings.{listed_has}
use Rattle.rt_past.specs.Files.{IsStored}
use Rattle.rt_past.specs.IsPast.{IsRightUpload}
use Rattle.rt_past.specs.Replies.{IsReply}
use Rattle.rt_past.specs.Requests.{IsRequest}
use Rattle.rt_past.specs.Segments.{WasDone}
use Rattle.rt_past.proofs.Uploads.{right_upload}
use Rattle.rt_consumer.specs.declared.consumer.Consumer.{Consumer}
use Rattle.rt_segment.specs.Segment.{SealedSegment}
use Rattle.rt_server.specs.LastingRows.{AreRightRows, CommittedRows, IsRightCommitted, IsRightCopy, committed_rows}
use Rattle.rt_server.specs.Serving.{serve}
use Rattle.rt_server.specs.Table.{entry_of, file_at}
use Rattle.rt_server.proofs.LastingCommits.{commits_right}
use Rattle.rt_server.proofs.LastingCopies.{copies_right}
use Rattle.rt_server.proofs.LastingEntries.{replica_held}
use Rattle.rt_server.proofs.LastingServes.{serves_right}
use Rattle.rt_server.proofs.LastingTargets.{done_stored}
use Rattle.rt_store.specs.Contents.{starting_of}
use Rattle.rt_stream.specs.Log.{messages_of}
use Rattle.std.specs.Prelude.{IfSome, Ok}
use Rattle.rt_state.specs.Finding.{replica_at, replica_in}
use Rattle.rt_safety.specs.IsRightReplica.{IsRightReplica}
use Rattle.rt_state.specs.IsSafe.{past_of}
use Rattle.rt_state.specs.IsSafeWorld.{IsSafeWorld}
use Rattle.rt_nodes.specs.declared.server_node.ServerNode.{ServerNode}
use Rattle.rt_state.specs.declared.state.State.{State}

-- ---- partitions

pub has_chain : (w : State) (p : Partition) → IsSafeWorld w → p.0 < w.setup.partitions → IsChain w.store.writes p
has_chain w p s within = (deletions_of w.store.writes p, sequences_of w.store.writes p, has_chains (starting_of w.setup) w.store.writes s.safe.past.lawful p within)

pub is_tiled : (w : State) (p : Partition) → IsSafeWorld w → p.0 < w.setup.partitions → IsTiled w.store.writes p
is_tiled w p s within = let t = has_tiles (starting_of w.setup) w.store.writes s.safe.past.lawful p within in (t.0, t.1)

-- ---- commits

abbrev done_of : Commit → Status
done_of commit = Done commit

pub done_is_stored : (w : State) (p : Partition) (q : Sequence) (done : SeenMeta) (commit : Commit) → IsSafeWorld w → WasDone w.store.writes p q done
    → done.meta.status ≡ Done commit → IsStored w.setup (past_of w) p q done.meta.start commit
done_is_stored w p q done commit s was is =
    let d = done_stored w.setup (past_of w) p q done s.safe.past was in
    subst (IsStored w.setup (past_of w) p q done.meta.start) (same d.commit (sym d.status ∙ is)) d.stored
  where
    same : (c : Commit) → done_of c ≡ done_of commit → c ≡ commit
    same c e = cc

-- a range that is committed ends within the log
status_within : (w : State) (p : Partition) (l : Listed) (r : Range) (at : Status) → IsSafeWorld w → Has w.store.writes (listed_write p l) → l.seen.meta.status ≡ at
    → range_by l.seen.meta.start at ≡ Some r → r.end.0 ≤ length (messages_of w.log p)
status_within w p l r InProgress s has is e = absurd (none-some r e)
status_within w p l r Abandoned s has is e = absurd (none-some r e)
status_within w p l r (Done commit) s has is e =
    let stored = done_is_stored w p l.sequence l.seen commit s (has, subst IsDoneStatus (sym is) tt) is in
    let end : commit.end ≡ r.end = ap (λ (x : Range). x.end) (same_Some _ r e) in
    subst (λ (x : Offset). x.0 ≤ length (messages_of w.log p)) end stored.right.file.within.1

of_listed : (ls : List Listed) (r : Range) → Has (filter_map (λ l. range_by l.seen.meta.start l.seen.meta.status) ls) r
    → (l : Listed) × Has ls l × (range_by l.seen.meta.start l.seen.meta.status ≡ Some r)
of_listed [] r has = absurd has
of_listed (l ∷ ls) r has = by_range (range_by l.seen.meta.start l.seen.meta.status) refl (λ k. of_listed ls r k) has
  where
    Found : List Listed → Type 0
    Found xs = (x : Listed) × Has xs x × (range_by x.seen.meta.start x.seen.meta.status ≡ Some r)

    rest : List Range
    rest = filter_map (λ x. range_by x.seen.meta.start x.seen.meta.status) ls

    by_range : (o : Option Range) → range_by l.seen.meta.start l.seen.meta.status ≡ o → (Has rest r → Found ls) → Has (cons_option o rest) r → Found (l ∷ ls)
    by_range None e further k = let x = further k in (x.0, inr x.1, x.2)
    by_range (Some y) e further (inl same) = (l, inl refl, e ∙ ap (λ (z : Range). Some z) same)
    by_range (Some y) e further (inr k) = let x = further k in (x.0, inr x.1, x.2)

pub committed_within : (w : State) (p : Partition) (r : Range) → IsSafeWorld w → Has (committed_of w.store.writes p) r → r.end.0 ≤ length (messages_of w.log p)
committed_within w p r s has =
    let x = of_listed (metadata_of w.store.writes p) r has in
    status_within w p x.0 r x.0.seen.meta.status s (listed_has w.store.writes p x.0 x.1) refl x.2

-- ---- files and messages

pub file_is_right : (w : State) (f : DeepPut) → IsSafeWorld w → Has w.deep.files f → IsRightUpload w.setup (past_of w) f
file_is_right w f s has = right_upload w.setup (past_of w) f s.safe.past has

pub request_is_right : (w : State) (q : Request) → IsSafeWorld w → Has w.sent (sent.Request q) → IsRequest w.setup (past_of w) q
request_is_right w q s has = s.safe.past.requests q has

pub reply_is_right : (w : State) (r : Reply) → IsSafeWorld w → Has w.sent (sent.Reply r) → IsReply (past_of w) r
reply_is_right w r s has = s.safe.past.replies r has

-- ---- servers

pub replica_is_right : (w : State) (i : Instance) (p : Partition) (q : Sequence) (r : Consumer) → IsSafeWorld w → replica_at w i p q ≡ Some r → IsRightReplica w p q r
replica_is_right w i p q r s e = by_node (slice_get w.servers i.0) refl e
  where
    by_node : (o : Option ServerNode) → slice_get w.servers i.0 ≡ o → replica_in o p q ≡ Some r → IsRightReplica w p q r
    by_node None there found = absurd (none-some r found)
    by_node (Some n) there found =
        let k = replica_held w.setup (past_of w) n.server (s.safe.servers i.0 n there).over p q r found in
        record { segment = k.0; settings = k.2.settings; begun = k.2.begun; held = k.2.held }

module _ (w : State) (i : Instance) (n : ServerNode) (s : IsSafeWorld w) (there : slice_get w.servers i.0 ≡ Some n) where
  pub commit_is_right : (p : Partition) (q : Sequence) (e : Entry) (c : CommittedRows) → entry_of n.server.table p q ≡ Some e → committed_rows e ≡ Some c
      → IsRightCommitted w.setup (past_of w) p q c
  commit_is_right p q e c found rows = commits_right w.setup (past_of w) n.server p q e c s.safe.past (s.safe.servers i.0 n there).over found rows

  pub copy_is_right : (p : Partition) (q : Sequence) (file : SealedSegment) → file_at (entry_of n.server.table p q) ≡ Some file
      → IsRightCopy w.setup (past_of w) p q file
  copy_is_right p q file found = copies_right w.setup (past_of w) n.server p q file s.safe.past (s.safe.servers i.0 n there).over found

  pub served_is_right : (piece : Piece) (served : ServedRows) → IfSome piece.end (λ end. piece.start.0 ≤ end.0) → serve n.server.table piece ≡ Ok served
      → AreRightRows w.setup.schema (messages_of w.log piece.partition) piece served
  served_is_right piece served order e = serves_right w.setup (past_of w) n.server (s.safe.servers i.0 n there).over piece served order e
