-- What a replica has of its own is kept by each of its calls.
use Rattle.std.proofs.Common.{◌≡◌, ℕ, inl, Option, Some, None, Result, Ok, Err, sym, ap, subst, ◌∙◌}
use Rattle.rt_base.specs.declared.numbers.Instance.{Instance}
use Rattle.rt_base.specs.declared.numbers.Moment.{Moment}
use Rattle.rt_base.specs.declared.numbers.Offset.{Offset}
use Rattle.rt_lists.specs.Members.{Has}
use Rattle.rt_stream.specs.Feed.{FeedMeaning}
use Rattle.rt_stream.specs.Log.{Log}
use Rattle.rt_model.specs.declared.reply.Reply.{Reply}
use Rattle.rt_model.specs.declared.seg_meta.SeenMeta.{SeenMeta}
use Rattle.rt_model.specs.declared.sent.Sent.TheVariants as sent
use Rattle.rt_model.specs.declared.setup.Setup.{Setup}
use Rattle.rt_past.specs.Past.{Past}
use Rattle.rt_past.specs.Segments.{WasDone}
use Rattle.rt_consumer.specs.declared.consumer.Consumer.{Consumer}
use Rattle.rt_consumer.specs.declared.phase.Phase.{Phase}
use Rattle.rt_consumer.specs.declared.refused.ReplicaRefused.{ReplicaRefused}
use Rattle.rt_consumer.specs.declared.refused.ReplicaRefused.TheVariants.{NotDue, Memory}
use Rattle.rt_consumer.specs.Batch.{Consumes, consumed}
use Rattle.rt_consumer.specs.Consumer.{IsConsumer}
use Rattle.rt_consumer.specs.Replies.{replied}
use Rattle.rt_consumer.specs.Requests.{Builds, Does, forced, learned, stopped}
use Rattle.rt_replica.specs.Own.{IsOwnReplica}
use Rattle.rt_replica.proofs.KeepsOwn.{built_own, consumed_own, forced_own, learned_own, stopped_own}
use Rattle.rt_replica.proofs.Replied.{replied_own}
use Rattle.rt_server.specs.Table.{Segment, segment_of}
use Rattle.rt_server.proofs.SameSegment.{learned_segment}

module _ (setup : Setup) (view : Past) (i : Instance) (incarnation : ℕ) (r : Consumer) (k : IsOwnReplica setup view i incarnation r) where
  abbrev Own : Consumer → Type 0
  Own new = IsOwnReplica setup view i incarnation new

  unchanged : (new : Consumer) → new ≡ r → Own new
  unchanged new e = subst Own (sym e) k

  pub consumes_own : (before after : FeedMeaning) (new : Consumer) (max : ℕ) (now : Moment) (result : Result (Unit {0}) ReplicaRefused)
      → view.log ≡ after.seen → Consumes before after r new max now result → Own new
  consumes_own before after new max now (Ok u) e h =
      consumed_own setup view i incarnation r k max now new (subst (λ (log : Log). consumed r max now log ≡ Some new) (sym e) h.1)
  consumes_own before after new max now (Err NotDue) e h = unchanged new h.1
  consumes_own before after new max now (Err Memory) e h = unchanged new h.1

  does_own : (to : Option Phase) (new : Consumer) (result : Result (Unit {0}) ReplicaRefused)
      → ((n : Phase) → to ≡ Some n → Own (record r { phase = n; waited = None })) → Does to r new result → Own new
  does_own to new (Ok u) keeps h = subst Own (sym h.1) (keeps new.phase h.0)
  does_own to new (Err NotDue) keeps h = unchanged new h.1
  does_own to new (Err Memory) keeps h = absurd h

  pub forces_own : (new : Consumer) (result : Result (Unit {0}) ReplicaRefused) → Does (forced r.phase) r new result → Own new
  forces_own new result h = does_own (forced r.phase) new result (λ n e. forced_own setup view i incarnation r k n e) h

  pub stops_own : (new : Consumer) (result : Result (Unit {0}) ReplicaRefused) → Does (stopped r.phase) r new result → Own new
  stops_own new result h = does_own (stopped r.phase) new result (λ n e. stopped_own setup view i incarnation r k n e) h

  pub builds_own : (new : Consumer) (result : Result (Unit {0}) ReplicaRefused) → Builds r new result → Own new
  builds_own new (Ok u) h = subst Own (sym h.1.2) (built_own setup view i incarnation r k h.1.0 h.1.1)
  builds_own new (Err NotDue) h = unchanged new h.1
  builds_own new (Err Memory) h = unchanged new h.1

  pub replies_own : (reply : Reply) → IsConsumer r → Has view.sent (sent.Reply reply) → segment_of r ≡ (reply.partition, reply.sequence) → Own (replied r reply)
  replies_own reply c taken of =
      replied_own setup view i incarnation r k reply taken (ap (λ (s : Segment). s.0) (sym of), ap (λ (s : Segment). s.1) (sym of)) c

  -- told of a commit that was seen
  pub learned_entry : (s : Segment) → segment_of r ≡ s → (done : SeenMeta) (end : Offset) → WasDone view.history r.partition r.sequence done
      → (segment_of (learned r r.phase done end) ≡ s) × Own (learned r r.phase done end)
  learned_entry s of done end was = (learned_segment r r.phase done end ∙ of, learned_own setup view i incarnation r k done end (inl was))
