-- What a replica and a reply tell of a segment's commit.
use Rattle.std.proofs.Common.{◌≡◌, ◌<◌, ℕ, Bool, true, false, List, Option, Some, None, Ok, refl, sym, ◌∙◌, ap, subst, slice_get}
use Rattle.std.proofs.lemmas.Bool.{false≢true}
use Rattle.rt_base.specs.declared.numbers.Instance.{Instance}
use Rattle.rt_base.specs.declared.numbers.Offset.{Offset}
use Rattle.rt_base.specs.declared.numbers.Partition.{Partition}
use Rattle.rt_base.specs.declared.numbers.Sequence.{Sequence}
use Rattle.rt_consumer.specs.Consumer.{state_at, state_of}
use Rattle.rt_consumer.specs.declared.consumer.Consumer.{Consumer}
use Rattle.rt_consumer.specs.declared.phase.Phase.{Phase}
use Rattle.rt_consumer.specs.declared.phase.Phase.TheVariants as phase
use Rattle.rt_consumer.specs.declared.stage.Stage.{Stage}
use Rattle.rt_consumer.specs.declared.stage.Stage.TheVariants.{Building, CatchingUp, ConsumingToOnline, Ending, Holding, InitialConsuming, Retaining, Starting, Uploading}
use Rattle.rt_events.specs.declared.event.Event.TheVariants as event
use Rattle.rt_events.specs.declared.outcome.Outcome.{Outcome}
use Rattle.rt_events.specs.declared.outcome.Outcome.TheVariants as came
use Rattle.rt_lists.proofs.Members.{Has-front}
use Rattle.rt_lists.specs.Members.{Has}
use Rattle.rt_model.specs.Metadata.{listed_write}
use Rattle.rt_model.specs.declared.asked.Asked.{Asked}
use Rattle.rt_model.specs.declared.node.Seen.{Seen}
use Rattle.rt_model.specs.declared.replica_state.ReplicaState.{ReplicaState}
use Rattle.rt_model.specs.declared.reply.Reply.{Reply}
use Rattle.rt_model.specs.declared.reply.ReplyStatus.{ReplyStatus}
use Rattle.rt_model.specs.declared.reply.ReplyStatus.TheVariants as status
use Rattle.rt_model.specs.declared.seg_meta.SeenMeta.{SeenMeta}
use Rattle.rt_model.specs.declared.sent.Sent.TheVariants as sent
use Rattle.rt_model.specs.declared.setup.Setup.{Setup}
use Rattle.rt_nodes.specs.Messages.{node_took, took}
use Rattle.rt_nodes.specs.declared.server_node.ServerNode.{ServerNode}
use Rattle.rt_past.specs.Replies.{IsReply, IsStatus}
use Rattle.rt_past.specs.Segments.{WasDone}
use Rattle.rt_play.proofs.Noted.{WasCommitted}
use Rattle.rt_play.proofs.Ranged.{AreRanged}
use Rattle.rt_play.specs.Ledger.{Ranges, is_success_status, knows_commit}
use Rattle.rt_replica.specs.Lasting.{HasUploaded, ToldAt, ToldIn}
use Rattle.rt_safety.proofs.JobsOn.{own_slot}
use Rattle.rt_safety.specs.GoesOn.{GoesOn}
use Rattle.rt_segment.specs.Segment.{SealedSegment}
use Rattle.rt_server.proofs.LastingEntries.{replica_held}
use Rattle.rt_server.specs.Calls.{replied_in}
use Rattle.rt_server.specs.Table.{replica_of}
use Rattle.rt_state.specs.Finding.{reply_at}
use Rattle.rt_state.specs.IsSafe.{past_of}
use Rattle.rt_state.specs.IsSafeWorld.{IsSafeWorld}
use Rattle.rt_state.specs.Messages.{RepliesAt}
use Rattle.rt_state.specs.Nodes.{ServerDoesAt}
use Rattle.rt_state.specs.declared.state.State.{State}
use Rattle.rt_store.specs.Contents.{starting_of}
use Rattle.rt_world.specs.Step.{Steps}

-- ---- a commit that is known

-- metadata of a segment of the cluster was written that says it was committed
pub record IsKnown (w : State) (p : Partition) (q : Sequence) : Type 0 where
  pub within : p.0 < w.setup.partitions
  pub done : SeenMeta
  pub was : WasDone w.store.writes p q done

pub known_stays : (w v : State) (p : Partition) (q : Sequence) → GoesOn w v → IsKnown w p q → IsKnown v p q
known_stays w v p q goes k = record {
  within = subst (λ (s : Setup). p.0 < s.partitions) (sym goes.setup) k.within;
  done = k.done;
  was = (
    Has-front w.store.writes v.store.writes (listed_write p (record { sequence = q; seen = k.done })) goes.past.history k.was.0,
    k.was.1,
  );
}

pub known_committed : (ranges : Ranges) (w : State) (p : Partition) (q : Sequence) → AreRanged (starting_of w.setup) w.store.writes ranges → IsKnown w p q
    → WasCommitted ranges w (record { partition = p; sequence = q })
known_committed ranges w p q ranged k =
    let write = listed_write p (record { sequence = q; seen = k.done }) in
    record { within = k.within; write = write; has = k.was.0; of = refl; done = ranged p q write k.within k.was.0 refl k.was.1 }

-- ---- a replica

-- a replica that knows of its segment's commit was told the metadata that says so
knows_at : (h : List Seen) (p : Partition) (q : Sequence) (Up : Offset → SealedSegment → List ℕ → Type 0) (x : Offset) (stage : Stage) → knows_commit (state_at stage) ≡ true
    → ToldAt (WasDone h p q) Up x stage → (done : SeenMeta) × WasDone h p q done
knows_at h p q Up x (ConsumingToOnline end done) e told = (done, told)
knows_at h p q Up x (Retaining done) e told = (done, told)
knows_at h p q Up x InitialConsuming e told = absurd (false≢true e)
knows_at h p q Up x (CatchingUp target reason) e told = absurd (false≢true e)
knows_at h p q Up x (Holding reason) e told = absurd (false≢true e)
knows_at h p q Up x (Building reason) e told = absurd (false≢true e)
knows_at h p q Up x (Starting reason built) e told = absurd (false≢true e)
knows_at h p q Up x (Uploading reason built) e told = absurd (false≢true e)
knows_at h p q Up x (Ending reason built path) e told = absurd (false≢true e)

knows_of : (h : List Seen) (p : Partition) (q : Sequence) (Up : Offset → SealedSegment → List ℕ → Type 0) (ph : Phase) → knows_commit (state_of ph) ≡ true
    → ToldIn (WasDone h p q) Up ph → (done : SeenMeta) × WasDone h p q done
knows_of h p q Up (phase.Unsealed o) e told = knows_at h p q Up o.rows.end o.stage e told
knows_of h p q Up (phase.Retained kept) e told = (kept.done, told)
knows_of h p q Up (phase.Committed kept) e told = (kept.done, told)
knows_of h p q Up (phase.Discarded d) e told = absurd (false≢true e)

pub replica_knows : (w : State) (n : ServerNode) (i : Instance) (p : Partition) (q : Sequence) (r : Consumer) → IsSafeWorld w → slice_get w.servers i.0 ≡ Some n
    → replica_of n.server.table p q ≡ Some r → knows_commit (state_of r.phase) ≡ true → IsKnown w p q
replica_knows w n i p q r safe at found knows =
    let held = replica_held w.setup (past_of w) n.server (safe.safe.servers i.0 n at).over p q r found in
    let done = knows_of w.store.writes r.partition r.sequence (HasUploaded w.setup (past_of w) n.server.numbers.instance n.server.numbers.incarnation r.partition r.sequence r.start)
    r.phase knows held.2.told in
    subst (λ (s : Partition × Sequence). IsKnown w s.0 s.1) held.0 (record { within = held.2.partition; done = done.0; was = done.1 })

-- what is told of a reply that was taken is of its own segment
took_own : (b : Bool) (reply : Reply) (r : Option Consumer) (i : Instance) (p : Partition) (q : Sequence) (stands : ReplicaState)
    → took b reply r ≡ came.Took i p q stands → (replica : Consumer) × (r ≡ Some replica) × (reply.partition ≡ p) × (reply.sequence ≡ q) × (state_of replica.phase ≡ stands)
took_own false reply r i p q stands e = absurd (cc)
took_own true reply None i p q stands e = absurd (cc)
took_own true reply (Some replica) i p q stands e = (replica, refl, cc, cc, cc)

-- a replica that took a reply of its segment
pub record IsTaken (w v : State) (m : ℕ) (p : Partition) (q : Sequence) (stands : ReplicaState) : Type 0 where
  pub reply : Reply
  pub there : reply_at w m ≡ Some reply
  pub partition : reply.partition ≡ p
  pub sequence : reply.sequence ≡ q
  pub knows : IsSafeWorld v → knows_commit stands ≡ true → IsKnown v p q

pub taken : (w v : State) (m : ℕ) (o : Outcome) (i : Instance) (p : Partition) (q : Sequence) (stands : ReplicaState) → Steps w (event.Reply m) v (Ok o)
    → o ≡ came.Took i p q stands → IsTaken w v m p q stands
taken w v m o i p q stands (cost, due, h) told = by_reply (reply_at w m) refl h
  where
    by_server : (reply : Reply) (n : Option ServerNode) → reply_at w m ≡ Some reply → slice_get w.servers reply.number.instance.0 ≡ n
        → ServerDoesAt n w reply.number.instance (λ old new outcome. (outcome, new) ≡ node_took old reply) cost (v, o) → IsTaken w v m p q stands
    by_server reply None there at h = absurd h
    by_server reply (Some old) there at (new, step, is) =
        let here : slice_get v.servers reply.number.instance.0 ≡ Some new =
        ap (λ (z : State). slice_get z.servers reply.number.instance.0) is ∙ own_slot w.servers reply.number.instance.0 old new at in
        let x = replied_in old.server.table reply in
        let table : new.server.table ≡ x.1 = ap (λ (z : Outcome × ServerNode). z.1.server.table) step in
        let its = took_own x.0 reply (replica_of x.1 reply.partition reply.sequence) i p q stands (sym (ap (λ (z : Outcome × ServerNode). z.0) step) ∙ told) in
        let found : replica_of new.server.table reply.partition reply.sequence ≡ Some its.0 =
        ap (λ t. replica_of t reply.partition reply.sequence) table ∙ its.1 in
        record {
          reply = reply;
          there = there;
          partition = its.2;
          sequence = its.3;
          knows =
              λ later knows.
              subst (IsKnown v p) its.3
              (subst (λ (t : Partition). IsKnown v t reply.sequence) its.2
              (replica_knows v new reply.number.instance reply.partition reply.sequence its.0 later here found (ap knows_commit its.4 ∙ knows)));
        }

    by_reply : (r : Option Reply) → reply_at w m ≡ r → RepliesAt r w cost (v, o) → IsTaken w v m p q stands
    by_reply None there h = absurd h
    by_reply (Some reply) there h = by_server reply (slice_get w.servers reply.number.instance.0) there refl h

pub taken_knows : (w v : State) (m : ℕ) (o : Outcome) (i : Instance) (p : Partition) (q : Sequence) (stands : ReplicaState) → IsSafeWorld v → Steps w (event.Reply m) v (Ok o)
    → o ≡ came.Took i p q stands → knows_commit stands ≡ true → IsKnown v p q
taken_knows w v m o i p q stands later steps told = (taken w v m o i p q stands steps told).knows later

-- ---- a reply

-- one that says COMMIT_SUCCESS
pub reply_knows : (w : State) (reply : Reply) → IsSafeWorld w → Has w.sent (sent.Reply reply) → is_success_status reply.status ≡ true → IsKnown w reply.partition reply.sequence
reply_knows w reply safe has e = by_status reply.status refl e
  where
    its : IsReply (past_of w) reply
    its = safe.safe.past.replies reply has

    by_status : (s : ReplyStatus) → reply.status ≡ s → is_success_status s ≡ true → IsKnown w reply.partition reply.sequence
    by_status (status.CommitSuccess seen) is e =
        let was : WasDone w.store.writes its.request.partition its.request.sequence seen = subst (IsStatus (past_of w) its.request) is its.status in
        let within = (safe.safe.past.requests its.request its.was_sent).partition in
        subst (λ (a : Asked). IsKnown w a.partition a.sequence) its.answers (record { within = within; done = seen; was = was })
    by_status other is e = absurd (false≢true e)
