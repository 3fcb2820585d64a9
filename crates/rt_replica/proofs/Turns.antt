-- What is true of a replica stays true, whatever it is answered.
use Rattle.std.proofs.Common.{◌≡◌, ◌<◌, ◌==◌, Bool, true, false, cond, nat_lt, Option, Some, None, refl, ap, sym, ◌∙◌}
use Rattle.std.proofs.lemmas.Bool.{ltb-true, eqb-true, false≢true}
use Rattle.rt_base.specs.declared.numbers.Offset.{Offset}
use Rattle.rt_base.specs.declared.numbers.Partition.{Partition}
use Rattle.rt_base.specs.declared.numbers.Sequence.{Sequence}
use Rattle.rt_mutable.specs.Consuming.{Consuming}
use Rattle.rt_segment.specs.Segment.{SealedSegment}
use Rattle.rt_model.specs.Messages.{same_number}
use Rattle.rt_model.specs.declared.reply.Reply.{Reply}
use Rattle.rt_model.specs.declared.reply.ReplyStatus.{ReplyStatus}
use Rattle.rt_model.specs.declared.reply.ReplyStatus.TheVariants.{Hold, CatchUp, Keep, Discard, Commit, NotLeader, CommitContinue, UploadSuccess, CommitSuccess, Processed, Failed}
use Rattle.rt_model.specs.declared.request.Reason.{Reason}
use Rattle.rt_model.specs.declared.seg_meta.SeenMeta.{SeenMeta}
use Rattle.rt_consumer.specs.declared.phase.Discarded.{Discarded}
use Rattle.rt_consumer.specs.declared.phase.Phase.{Phase}
use Rattle.rt_consumer.specs.declared.phase.Phase.TheVariants as phase
use Rattle.rt_consumer.specs.declared.replies.Turn.{Turn}
use Rattle.rt_consumer.specs.declared.replies.Turn.TheVariants.{Stays, Goes}
use Rattle.rt_consumer.specs.declared.settings.Settings.{Settings}
use Rattle.rt_consumer.specs.declared.stage.Stage.{Stage}
use Rattle.rt_consumer.specs.declared.stage.Stage.TheVariants.{InitialConsuming, CatchingUp, Holding, ConsumingToOnline, Retaining, Building, Starting, Uploading, Ending}
use Rattle.rt_consumer.specs.declared.waited.Waited.{Waited}
use Rattle.rt_consumer.specs.declared.waited.Waited.TheVariants.{Step, Extend}
use Rattle.rt_consumer.specs.declared.consumer.Consumer.{Consumer}
use Rattle.rt_consumer.specs.Consumer.{IsConsumer, IsPhase, IsStage, IsBuilt, IsWaited, AreRows, at, number_of, end_of, is_at, ends_at}
use Rattle.rt_consumer.specs.Replies.{consumed, continued, uploaded, ended, keeps, commits, answered_at, answered, extended_at, extended, is_processed, turned, turn_by, is_answer, replied_to, replied}

by_test : (T : Turn → Type 0) (b : Bool) (x y : Turn) → (b ≡ true → T x) → (b ≡ false → T y) → T (cond b x y)
by_test T true x y p q = p refl
by_test T false x y p q = q refl

pub end_at : (x : Offset) (o : Option Offset) → is_at x o ≡ true → o ≡ Some x
end_at x None e = absurd (false≢true e)
end_at x (Some end) e = ap (λ n. Some (record { 0 = n })) (eqb-true end.0 x.0 e)

module _ (settings : Settings) (p : Partition) (q : Sequence) (start : Offset) (w : Option Waited) where
  -- what is owed of a turn
  abbrev pub Is : Turn → Type 0
  Is (Stays ph) = IsPhase settings p q start ph × IsWaited ph w
  Is (Goes ph) = IsPhase settings p q start ph

  module _ (rows : Consuming) (h : AreRows settings start rows) (past : rows.start.0 < rows.end.0) where
    consumed_is : (reason : Reason) (status : ReplyStatus) → IsWaited (at rows (Holding reason)) w → Is (consumed rows reason status)
    consumed_is reason (CatchUp t) k = by_test Is (nat_lt rows.end.0 t.0) _ _ (λ e. (h, (past, ltb-true _ _ e))) (λ e. ((h, past), k))
    consumed_is reason (Commit x) k = by_test Is (x.0 == rows.end.0) _ _ (λ e. (h, past)) (λ e. ((h, past), k))
    consumed_is reason (Keep seen) k = by_test Is (ends_at rows.end seen) _ _ (λ e. (h, (past, end_at rows.end (end_of seen) e))) (λ e. ((h, past), k))
    consumed_is reason Discard k = tt
    consumed_is reason Hold k = ((h, past), k)
    consumed_is reason NotLeader k = ((h, past), k)
    consumed_is reason CommitContinue k = ((h, past), k)
    consumed_is reason (UploadSuccess path) k = ((h, past), k)
    consumed_is reason (CommitSuccess seen) k = ((h, past), k)
    consumed_is reason Processed k = ((h, past), k)
    consumed_is reason (Failed cause) k = ((h, past), k)

    keeps_is : (reason : Reason) (seen : SeenMeta) → Is (keeps rows reason seen)
    keeps_is reason seen = by_test Is (ends_at rows.end seen) _ _ (λ e. (h, (past, end_at rows.end (end_of seen) e))) (λ e. (h, past))

    module _ (built : SealedSegment) (b : IsBuilt settings p q rows built) where
      continued_is : (reason : Reason) (status : ReplyStatus) → Is (continued rows reason built status)
      continued_is reason (Keep seen) = keeps_is reason seen
      continued_is reason Discard = tt
      continued_is reason CommitContinue = (h, (past, b))
      continued_is reason (CatchUp t) = (h, past)
      continued_is reason (Commit x) = (h, past)
      continued_is reason Hold = (h, past)
      continued_is reason NotLeader = (h, past)
      continued_is reason (UploadSuccess path) = (h, past)
      continued_is reason (CommitSuccess seen) = (h, past)
      continued_is reason Processed = (h, past)
      continued_is reason (Failed cause) = (h, past)

      uploaded_is : (reason : Reason) (status : ReplyStatus) → Is (uploaded rows reason built status)
      uploaded_is reason (UploadSuccess path) = (h, (past, b))
      uploaded_is reason (Keep seen) = (h, past)
      uploaded_is reason Discard = (h, past)
      uploaded_is reason CommitContinue = (h, past)
      uploaded_is reason (CatchUp t) = (h, past)
      uploaded_is reason (Commit x) = (h, past)
      uploaded_is reason Hold = (h, past)
      uploaded_is reason NotLeader = (h, past)
      uploaded_is reason (CommitSuccess seen) = (h, past)
      uploaded_is reason Processed = (h, past)
      uploaded_is reason (Failed cause) = (h, past)

      commits_is : (reason : Reason) (seen : SeenMeta) → Is (commits rows reason built seen)
      commits_is reason seen = by_test Is (ends_at rows.end seen) _ _
          (λ e. record {
            whole = b.whole;
            columns = b.columns;
            segment = (b.seals.partition, b.seals.sequence);
            first = ap (λ r. r.start) b.seals.range ∙ h.first;
            told = end_at rows.end (end_of seen) e ∙ ap (λ r. Some r.end) (sym b.seals.range);
          })
          (λ e. (h, past))

      ended_is : (reason : Reason) (status : ReplyStatus) → Is (ended rows reason built status)
      ended_is reason (Keep seen) = keeps_is reason seen
      ended_is reason Discard = tt
      ended_is reason (CommitSuccess seen) = commits_is reason seen
      ended_is reason CommitContinue = (h, past)
      ended_is reason (CatchUp t) = (h, past)
      ended_is reason (Commit x) = (h, past)
      ended_is reason Hold = (h, past)
      ended_is reason NotLeader = (h, past)
      ended_is reason (UploadSuccess path) = (h, past)
      ended_is reason Processed = (h, past)
      ended_is reason (Failed cause) = (h, past)

  answered_at_is : (rows : Consuming) (s : Stage) (status : ReplyStatus) → AreRows settings start rows → IsStage settings p q rows s → IsWaited (at rows s) w → Is (answered_at rows s status)
  answered_at_is rows (Holding reason) status h k i = consumed_is rows h k reason status i
  answered_at_is rows (Starting reason built) status h k i = continued_is rows h k.0 built k.1 reason status
  answered_at_is rows (Uploading reason built) status h k i = uploaded_is rows h k.0 built k.1 reason status
  answered_at_is rows (Ending reason built path) status h k i = ended_is rows h k.0 built k.1 reason status
  answered_at_is rows InitialConsuming status h k i = ((h, k), i)
  answered_at_is rows (CatchingUp target reason) status h k i = ((h, k), i)
  answered_at_is rows (ConsumingToOnline end done) status h k i = ((h, k), i)
  answered_at_is rows (Retaining done) status h k i = ((h, k), i)
  answered_at_is rows (Building reason) status h k i = ((h, k), i)

  extended_at_is : (rows : Consuming) (s : Stage) (b : Bool) → AreRows settings start rows → IsStage settings p q rows s → IsWaited (at rows s) w → Is (extended_at rows s b)
  extended_at_is rows (Building reason) true h k i = ((h, k), i)
  extended_at_is rows (Building reason) false h k i = (h, k)
  extended_at_is rows (Starting reason built) true h k i = ((h, k), i)
  extended_at_is rows (Starting reason built) false h k i = (h, k.0)
  extended_at_is rows (Holding reason) b h k i = ((h, k), i)
  extended_at_is rows InitialConsuming b h k i = ((h, k), i)
  extended_at_is rows (CatchingUp target reason) b h k i = ((h, k), i)
  extended_at_is rows (ConsumingToOnline end done) b h k i = ((h, k), i)
  extended_at_is rows (Retaining done) b h k i = ((h, k), i)
  extended_at_is rows (Uploading reason built) b h k i = ((h, k), i)
  extended_at_is rows (Ending reason built path) b h k i = ((h, k), i)

pub discarded_waits : (d e : Discarded) (w : Option Waited) → IsWaited (phase.Discarded d) w → IsWaited (phase.Discarded e) w
discarded_waits d e None i = tt
discarded_waits d e (Some (Step n)) i = i
discarded_waits d e (Some (Extend n)) i = i

answered_is : (r : Consumer) (ph : Phase) (status : ReplyStatus) → IsPhase r.settings r.partition r.sequence r.start ph → IsWaited ph r.waited → Is r.settings r.partition r.sequence r.start r.waited (answered ph status)
answered_is r (phase.Unsealed o) status k i = answered_at_is r.settings r.partition r.sequence r.start r.waited o.rows o.stage status k.0 k.1 i
answered_is r (phase.Retained kept) status k i = (k, i)
answered_is r (phase.Committed kept) status k i = (k, i)
answered_is r (phase.Discarded d) status k i =
    by_test (Is r.settings r.partition r.sequence r.start r.waited) (is_processed status) _ _
    (λ e. (tt, discarded_waits d (record d { stopped = false }) r.waited i)) (λ e. (tt, i))

extended_is : (r : Consumer) (ph : Phase) (status : ReplyStatus) → IsPhase r.settings r.partition r.sequence r.start ph → IsWaited ph r.waited → Is r.settings r.partition r.sequence r.start r.waited (extended ph status)
extended_is r (phase.Unsealed o) status k i = extended_at_is r.settings r.partition r.sequence r.start r.waited o.rows o.stage (is_processed status) k.0 k.1 i
extended_is r (phase.Retained kept) status k i = (k, i)
extended_is r (phase.Committed kept) status k i = (k, i)
extended_is r (phase.Discarded d) status k i = (tt, i)

turn_is : (r : Consumer) (w : Waited) (status : ReplyStatus) → IsConsumer r → Is r.settings r.partition r.sequence r.start r.waited (turn_by r.phase w status)
turn_is r (Step n) status c = answered_is r r.phase status c.phase c.waited
turn_is r (Extend n) status c = extended_is r r.phase status c.phase c.waited

pub turned_is : (r : Consumer) (t : Turn) → IsConsumer r → Is r.settings r.partition r.sequence r.start r.waited t → IsConsumer (turned r t)
turned_is r (Stays ph) c k = record { settings = c.settings; phase = k.0; waited = k.1 }
turned_is r (Goes ph) c k = record { settings = c.settings; phase = k; waited = tt }

same_turn : (r : Consumer) (b : Bool) (x : Consumer) → IsConsumer r → IsConsumer x → IsConsumer (cond b x r)
same_turn r true x p q = q
same_turn r false x p q = p

pub replied_is : (r : Consumer) (w : Option Waited) (reply : Reply) → IsConsumer r → IsConsumer (replied_to r w reply)
replied_is r None reply c = c
replied_is r (Some w) reply c =
    same_turn r (same_number (number_of w) reply.number) (turned r (turn_by r.phase w reply.status)) c
    (turned_is r (turn_by r.phase w reply.status) c (turn_is r w reply.status c))

ignored_at : (r : Consumer) (b : Bool) (x : Consumer) → b ≡ false → cond b x r ≡ r
ignored_at r true x e = cc
ignored_at r false x e = refl

ignored_by : (r : Consumer) (w : Option Waited) (reply : Reply) → is_answer w reply ≡ false → replied_to r w reply ≡ r
ignored_by r None reply e = refl
ignored_by r (Some w) reply e = ignored_at r (same_number (number_of w) reply.number) (turned r (turn_by r.phase w reply.status)) e

-- an answer to another number
pub ignored : (r : Consumer) (reply : Reply) → is_answer r.waited reply ≡ false → replied r reply ≡ r
ignored r reply e = ignored_by r r.waited reply e
