-- A replica keeps its segment, whichever call it takes.
use Rattle.std.proofs.Common.{◌≡◌, ℕ, List, Bool, true, false, cond, Option, Some, None, option_map, Result, Ok, Err, refl, sym, ap, ◌∙◌}
use Rattle.rt_base.specs.declared.numbers.Moment.{Moment}
use Rattle.rt_base.specs.declared.numbers.Offset.{Offset}
use Rattle.rt_stream.specs.Feed.{FeedMeaning}
use Rattle.rt_model.specs.declared.reply.Reply.{Reply}
use Rattle.rt_model.specs.declared.request.Request.{Request}
use Rattle.rt_model.specs.declared.seg_meta.SeenMeta.{SeenMeta}
use Rattle.rt_model.specs.Messages.{same_number}
use Rattle.rt_msgs.specs.Numbered.{Numbered}
use Rattle.rt_consumer.specs.declared.consumer.Consumer.{Consumer}
use Rattle.rt_consumer.specs.declared.phase.Phase.{Phase}
use Rattle.rt_consumer.specs.declared.phase.Phase.TheVariants as phase
use Rattle.rt_consumer.specs.declared.refused.ReplicaRefused.{ReplicaRefused}
use Rattle.rt_consumer.specs.declared.refused.ReplicaRefused.TheVariants.{NotDue, Memory}
use Rattle.rt_consumer.specs.declared.replies.Turn.{Turn}
use Rattle.rt_consumer.specs.declared.replies.Turn.TheVariants.{Stays, Goes}
use Rattle.rt_consumer.specs.declared.waited.Waited.{Waited}
use Rattle.rt_consumer.specs.Consumer.{number_of}
use Rattle.rt_consumer.specs.Batch.{Consumes, asked_in, taken, taken_in}
use Rattle.rt_consumer.specs.Replies.{replied, replied_to, turned, turn_by}
use Rattle.rt_consumer.specs.Requests.{Builds, Does, Extends, Requests, learned}
use Rattle.rt_server.specs.Table.{segment_of}

abbrev KeepsSegment : Consumer → Consumer → Type 0
KeepsSegment old new = segment_of new ≡ segment_of old

abbrev the : Consumer → Option Consumer
the r = Some r

taken_segment : (r : Consumer) (p : Phase) (now : Moment) (ms : List (List ℕ)) → segment_of (taken_in r p now ms) ≡ segment_of r
taken_segment r (phase.Unsealed o) now ms = refl
taken_segment r (phase.Retained kept) now ms = refl
taken_segment r (phase.Committed kept) now ms = refl
taken_segment r (phase.Discarded d) now ms = refl

consumed_segment : (r new : Consumer) (now : Moment) (messages : ℕ → List (List ℕ)) (o : Option ℕ)
    → option_map (λ count. taken r now (messages count)) o ≡ the new → segment_of new ≡ segment_of r
consumed_segment r new now messages None e = absurd (cc)
consumed_segment r new now messages (Some count) e =
    ap segment_of (sym (unwrapped (taken r now (messages count)) new e)) ∙ taken_segment r r.phase now (messages count)
  where
    unwrapped : (a b : Consumer) → the a ≡ the b → a ≡ b
    unwrapped a b e = cc

turned_segment : (r : Consumer) (t : Turn) → segment_of (turned r t) ≡ segment_of r
turned_segment r (Stays p) = refl
turned_segment r (Goes p) = refl

replied_if : (r : Consumer) (t : Turn) (b : Bool) → segment_of (cond b (turned r t) r) ≡ segment_of r
replied_if r t true = turned_segment r t
replied_if r t false = refl

replied_segment : (r : Consumer) (o : Option Waited) (reply : Reply) → segment_of (replied_to r o reply) ≡ segment_of r
replied_segment r None reply = refl
replied_segment r (Some waited) reply = replied_if r (turn_by r.phase waited reply.status) (same_number (number_of waited) reply.number)

pub learned_segment : (r : Consumer) (p : Phase) (done : SeenMeta) (end : Offset) → segment_of (learned r p done end) ≡ segment_of r
learned_segment r (phase.Unsealed o) done end = refl
learned_segment r (phase.Retained kept) done end = refl
learned_segment r (phase.Committed kept) done end = refl
learned_segment r (phase.Discarded d) done end = refl

-- ---- by its calls

pub consumes_segment : (before after : FeedMeaning) (old new : Consumer) (max : ℕ) (now : Moment) (result : Result (Unit {0}) ReplicaRefused)
    → Consumes before after old new max now result → KeepsSegment old new
consumes_segment before after old new max now (Ok u) h = consumed_segment old new now _ (asked_in old.phase max) h.1
consumes_segment before after old new max now (Err NotDue) h = ap segment_of h.1
consumes_segment before after old new max now (Err Memory) h = ap segment_of h.1

pub does_segment : (to : Option Phase) (old new : Consumer) (result : Result (Unit {0}) ReplicaRefused) → Does to old new result → KeepsSegment old new
does_segment to old new (Ok u) h = ap segment_of h.1
does_segment to old new (Err NotDue) h = ap segment_of h.1
does_segment to old new (Err Memory) h = absurd h

pub builds_segment : (old new : Consumer) (result : Result (Unit {0}) ReplicaRefused) → Builds old new result → KeepsSegment old new
builds_segment old new (Ok u) h = ap segment_of h.1.2
builds_segment old new (Err NotDue) h = ap segment_of h.1
builds_segment old new (Err Memory) h = ap segment_of h.1

pub requests_segment : (old new : Consumer) (before after : Numbered) (result : Result Request ReplicaRefused) → Requests old new before after result → KeepsSegment old new
requests_segment old new before after (Ok request) h = ap segment_of h.2
requests_segment old new before after (Err NotDue) h = ap segment_of h.1
requests_segment old new before after (Err Memory) h = ap segment_of h.1

pub extends_segment : (old new : Consumer) (before after : Numbered) (millis : ℕ) (result : Result Request ReplicaRefused) → Extends old new before after millis result → KeepsSegment old new
extends_segment old new before after millis (Ok request) h = ap segment_of h.2
extends_segment old new before after millis (Err NotDue) h = ap segment_of h.1
extends_segment old new before after millis (Err Memory) h = absurd h

pub replies_segment : (r : Consumer) (reply : Reply) → KeepsSegment r (replied r reply)
replies_segment r reply = replied_segment r r.waited reply
