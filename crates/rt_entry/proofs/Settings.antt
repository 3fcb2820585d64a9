-- A replica keeps its settings, whichever call it takes.
use Rattle.std.proofs.Common.{◌≡◌, ℕ, List, Bool, true, false, cond, Option, Some, None, option_map, Result, Ok, Err, refl, sym, ap, ◌∙◌}
use Rattle.rt_base.specs.declared.numbers.Moment.{Moment}
use Rattle.rt_base.specs.declared.numbers.Offset.{Offset}
use Rattle.rt_stream.specs.Feed.{FeedMeaning}
use Rattle.rt_model.specs.declared.reply.Reply.{Reply}
use Rattle.rt_model.specs.declared.request.Request.{Request}
use Rattle.rt_model.specs.declared.seg_meta.SeenMeta.{SeenMeta}
use Rattle.rt_model.specs.Messages.{same_number}
use Rattle.rt_msgs.specs.Numbered.{Numbered}
use Rattle.rt_consumer.specs.declared.consumer.Consumer.{Consumer}
use Rattle.rt_consumer.specs.declared.phase.Phase.{Phase}
use Rattle.rt_consumer.specs.declared.phase.Phase.TheVariants as phase
use Rattle.rt_consumer.specs.declared.refused.ReplicaRefused.{ReplicaRefused}
use Rattle.rt_consumer.specs.declared.refused.ReplicaRefused.TheVariants.{NotDue, Memory}
use Rattle.rt_consumer.specs.declared.replies.Turn.{Turn}
use Rattle.rt_consumer.specs.declared.replies.Turn.TheVariants.{Stays, Goes}
use Rattle.rt_consumer.specs.declared.waited.Waited.{Waited}
use Rattle.rt_consumer.specs.Consumer.{number_of}
use Rattle.rt_consumer.specs.Batch.{Consumes, asked_in, taken, taken_in}
use Rattle.rt_consumer.specs.Replies.{replied, replied_to, turned, turn_by}
use Rattle.rt_consumer.specs.Requests.{Builds, Does, Extends, Requests, learned}

abbrev KeepsSettings : Consumer → Consumer → Type 0
KeepsSettings old new = new.settings ≡ old.settings

same : (old new other : Consumer) → new ≡ other → other.settings ≡ old.settings → KeepsSettings old new
same old new other e s = ap (λ (r : Consumer). r.settings) e ∙ s

abbrev the : Consumer → Option Consumer
the r = Some r

taken_keeps : (r : Consumer) (p : Phase) (now : Moment) (ms : List (List ℕ)) → KeepsSettings r (taken_in r p now ms)
taken_keeps r (phase.Unsealed o) now ms = refl
taken_keeps r (phase.Retained kept) now ms = refl
taken_keeps r (phase.Committed kept) now ms = refl
taken_keeps r (phase.Discarded d) now ms = refl

consumed_keeps : (r new : Consumer) (now : Moment) (messages : ℕ → List (List ℕ)) (o : Option ℕ)
    → option_map (λ count. taken r now (messages count)) o ≡ the new → KeepsSettings r new
consumed_keeps r new now messages None e = absurd (cc)
consumed_keeps r new now messages (Some count) e =
    same r new (taken r now (messages count)) (sym (unwrapped (taken r now (messages count)) new e)) (taken_keeps r r.phase now (messages count))
  where
    unwrapped : (a b : Consumer) → the a ≡ the b → a ≡ b
    unwrapped a b e = cc

pub consumes_keep : (before after : FeedMeaning) (old new : Consumer) (max : ℕ) (now : Moment) (result : Result (Unit {0}) ReplicaRefused)
    → Consumes before after old new max now result → KeepsSettings old new
consumes_keep before after old new max now (Ok u) h = consumed_keeps old new now _ (asked_in old.phase max) h.1
consumes_keep before after old new max now (Err NotDue) h = same old new old h.1 refl
consumes_keep before after old new max now (Err Memory) h = same old new old h.1 refl

pub does_keep : (to : Option Phase) (old new : Consumer) (result : Result (Unit {0}) ReplicaRefused) → Does to old new result → KeepsSettings old new
does_keep to old new (Ok u) h = same old new (record old { phase = new.phase; waited = None }) h.1 refl
does_keep to old new (Err NotDue) h = same old new old h.1 refl
does_keep to old new (Err Memory) h = absurd h

pub builds_keep : (old new : Consumer) (result : Result (Unit {0}) ReplicaRefused) → Builds old new result → KeepsSettings old new
builds_keep old new (Ok u) h = ap (λ (r : Consumer). r.settings) h.1.2
builds_keep old new (Err NotDue) h = same old new old h.1 refl
builds_keep old new (Err Memory) h = same old new old h.1 refl

pub requests_keep : (old new : Consumer) (before after : Numbered) (result : Result Request ReplicaRefused) → Requests old new before after result → KeepsSettings old new
requests_keep old new before after (Ok request) h = ap (λ (r : Consumer). r.settings) h.2
requests_keep old new before after (Err NotDue) h = same old new old h.1 refl
requests_keep old new before after (Err Memory) h = same old new old h.1 refl

pub extends_keep : (old new : Consumer) (before after : Numbered) (millis : ℕ) (result : Result Request ReplicaRefused) → Extends old new before after millis result → KeepsSettings old new
extends_keep old new before after millis (Ok request) h = ap (λ (r : Consumer). r.settings) h.2
extends_keep old new before after millis (Err NotDue) h = same old new old h.1 refl
extends_keep old new before after millis (Err Memory) h = absurd h

turned_keeps : (r : Consumer) (t : Turn) → KeepsSettings r (turned r t)
turned_keeps r (Stays p) = refl
turned_keeps r (Goes p) = refl

replied_if : (r : Consumer) (t : Turn) (b : Bool) → KeepsSettings r (cond b (turned r t) r)
replied_if r t true = turned_keeps r t
replied_if r t false = refl

replied_by : (r : Consumer) (o : Option Waited) (reply : Reply) → KeepsSettings r (replied_to r o reply)
replied_by r None reply = refl
replied_by r (Some waited) reply = replied_if r (turn_by r.phase waited reply.status) (same_number (number_of waited) reply.number)

pub replied_keeps : (r : Consumer) (reply : Reply) → KeepsSettings r (replied r reply)
replied_keeps r reply = replied_by r r.waited reply

pub learned_keeps : (r : Consumer) (p : Phase) (done : SeenMeta) (end : Offset) → KeepsSettings r (learned r p done end)
learned_keeps r (phase.Unsealed o) done end = refl
learned_keeps r (phase.Retained kept) done end = refl
learned_keeps r (phase.Committed kept) done end = refl
learned_keeps r (phase.Discarded d) done end = refl
