-- A replica never has more than a million rows, whatever it takes, asks or is answered.
use Rattle.std.proofs.Common.{◌≡◌, ◌<◌, ◌≤◌, ◌==◌, ℕ, Bool, true, false, cond, List, [], ◌∷◌, length, Option, Some, None, Result, Ok, Err, option_map, sym, subst, arith, length-append, nat_lt}
use Rattle.std.proofs.lemmas.Bool.{ltb-true}
use Rattle.std.proofs.lemmas.Option.{none-some, same_Some}
use Rattle.rt_base.specs.declared.numbers.Moment.{Moment}
use Rattle.rt_base.specs.declared.numbers.Offset.{Offset}
use Rattle.rt_consumer.specs.Batch.{Consumes, asked_in, filled, messages_from, row_limit, taken, taken_in}
use Rattle.rt_consumer.specs.Consumer.{at, cur, ends_at, number_of}
use Rattle.rt_consumer.specs.Replies.{answered, answered_at, consumed as reply_consumed, continued, ended, extended, extended_at, is_processed, keeps, replied, replied_to, turn_by, turned, uploaded}
use Rattle.rt_consumer.specs.Requests.{Builds, Does, Extends, Requests, filed, filed_at, forced, forced_at, learned, learned_at, stopped, stopped_at, stops_at}
use Rattle.rt_consumer.specs.declared.consumer.Consumer.{Consumer}
use Rattle.rt_consumer.specs.declared.phase.Phase.{Phase}
use Rattle.rt_consumer.specs.declared.phase.Phase.TheVariants as phase
use Rattle.rt_consumer.specs.declared.refused.ReplicaRefused.{ReplicaRefused}
use Rattle.rt_consumer.specs.declared.refused.ReplicaRefused.TheVariants.{NotDue, Memory}
use Rattle.rt_consumer.specs.declared.replies.Turn.{Turn}
use Rattle.rt_consumer.specs.declared.replies.Turn.TheVariants.{Stays, Goes}
use Rattle.rt_consumer.specs.declared.settings.Settings.{Settings}
use Rattle.rt_consumer.specs.declared.stage.Stage.{Stage}
use Rattle.rt_consumer.specs.declared.stage.Stage.TheVariants.{InitialConsuming, CatchingUp, Holding, ConsumingToOnline, Retaining, Building, Starting, Uploading, Ending}
use Rattle.rt_consumer.specs.declared.waited.Waited.{Waited}
use Rattle.rt_consumer.specs.declared.waited.Waited.TheVariants.{Step, Extend}
use Rattle.rt_model.specs.Messages.{same_number}
use Rattle.rt_model.specs.declared.reply.Reply.{Reply}
use Rattle.rt_model.specs.declared.reply.ReplyStatus.{ReplyStatus}
use Rattle.rt_model.specs.declared.reply.ReplyStatus.TheVariants.{Hold, CatchUp, Keep, Discard, Commit, NotLeader, CommitContinue, UploadSuccess, CommitSuccess, Processed, Failed}
use Rattle.rt_model.specs.declared.request.Reason.{Reason}
use Rattle.rt_model.specs.declared.request.Reason.TheVariants.{Force}
use Rattle.rt_model.specs.declared.request.Request.{Request}
use Rattle.rt_model.specs.declared.seg_meta.SeenMeta.{SeenMeta}
use Rattle.rt_msgs.specs.Numbered.{Numbered}
use Rattle.rt_mutable.specs.Consuming.{Consuming, after_message}
use Rattle.rt_schema.specs.Row.{row_of}
use Rattle.rt_schema.specs.declared.row.Row.{Row}
use Rattle.rt_schema.specs.declared.schema.Schema.{Schema}
use Rattle.rt_segment.specs.Segment.{SealedSegment}
use Rattle.rt_stream.specs.Feed.{FeedMeaning}
use Rattle.rt_made.proofs.Contents.{if_so}

abbrev pub HasFew : Phase → Type 0
HasFew (phase.Unsealed o) = length o.rows.rows ≤ 1000000
HasFew (phase.Retained kept) = Unit {0}
HasFew (phase.Committed kept) = Unit {0}
HasFew (phase.Discarded d) = Unit {0}

either : {X : Type 0} (P : X → Type 0) (b : Bool) (x y : X) → P x → P y → P (cond b x y)
either P true x y h k = h
either P false x y h k = k

-- ---- messages

after_few : (rows : Consuming) (o : Option Row) → length rows.rows < 1000000 → length (after_message rows o).rows ≤ 1000000
after_few rows None lt = omega (arith, lt)
after_few rows (Some row) lt = omega (arith, lt, length-append rows.rows (record { offset = rows.end; row = row } ∷ []))

filled_few : (schema : Schema) (limit : ℕ) (rows : Consuming) (ms : List (List ℕ)) → limit ≤ 1000000 → length rows.rows ≤ 1000000 → length (filled schema limit rows ms).rows ≤ 1000000
filled_few schema limit rows [] few h = h
filled_few schema limit rows (m ∷ ms) few h =
    if_so (λ (x : Consuming). length x.rows ≤ 1000000) (nat_lt (length rows.rows) limit) (filled schema limit (after_message rows (row_of schema m)) ms) rows
    (λ e. filled_few schema limit (after_message rows (row_of schema m)) ms few (after_few rows (row_of schema m) (omega (arith, ltb-true (length rows.rows) limit e, few))))
    (λ _. h)

limit_few : (settings : Settings) (stage : Stage) → settings.rows ≤ 1000000 → row_limit settings stage ≤ 1000000
limit_few settings InitialConsuming h = h
limit_few settings (CatchingUp target reason) h = omega arith
limit_few settings (ConsumingToOnline end done) h = omega arith
limit_few settings (Holding reason) h = omega arith
limit_few settings (Retaining done) h = omega arith
limit_few settings (Building reason) h = omega arith
limit_few settings (Starting reason built) h = omega arith
limit_few settings (Uploading reason built) h = omega arith
limit_few settings (Ending reason built path) h = omega arith

taken_few : (r : Consumer) (ph : Phase) (now : Moment) (ms : List (List ℕ)) → r.settings.rows ≤ 1000000 → HasFew r.phase → HasFew ph → HasFew (taken_in r ph now ms).phase
taken_few r (phase.Unsealed o) now ms limit was h = filled_few r.settings.schema (row_limit r.settings o.stage) o.rows ms (limit_few r.settings o.stage limit) h
taken_few r (phase.Retained kept) now ms limit was h = was
taken_few r (phase.Committed kept) now ms limit was h = was
taken_few r (phase.Discarded d) now ms limit was h = was

mapped : {X : Type 0} (f : X → Consumer) (o : Option X) (new : Consumer) → ((x : X) → HasFew (f x).phase) → option_map f o ≡ Some new → HasFew new.phase
mapped f None new h e = absurd (none-some new e)
mapped f (Some x) new h e = subst (λ (r : Consumer). HasFew r.phase) (same_Some (f x) new e) (h x)

same_few : (old new : Consumer) → new ≡ old → HasFew old.phase → HasFew new.phase
same_few old new e h = subst (λ (r : Consumer). HasFew r.phase) (sym e) h

pub consumes_few : (before after : FeedMeaning) (old new : Consumer) (max : ℕ) (now : Moment) (answer : Result (Unit {0}) ReplicaRefused) → old.settings.rows ≤ 1000000
    → HasFew old.phase → Consumes before after old new max now answer → HasFew new.phase
consumes_few before after old new max now (Ok u) limit h c =
    mapped (λ count. taken old now (messages_from after.seen old.partition (cur old) count)) (asked_in old.phase max) new
    (λ count. taken_few old old.phase now (messages_from after.seen old.partition (cur old) count) limit h h) c.1
consumes_few before after old new max now (Err NotDue) limit h c = same_few old new c.1 h
consumes_few before after old new max now (Err Memory) limit h c = same_few old new c.1 h

-- ---- calls of its own

forced_few : (ph n : Phase) → HasFew ph → forced ph ≡ Some n → HasFew n
forced_few (phase.Unsealed o) n h e = by o.stage e
  where
    if_past : (b : Bool) → cond b (Some (at o.rows (Holding Force))) None ≡ Some n → HasFew n
    if_past true e = subst HasFew (same_Some (at o.rows (Holding Force)) n e) h
    if_past false e = absurd (none-some n e)

    by : (stage : Stage) → forced_at o.rows stage ≡ Some n → HasFew n
    by InitialConsuming e = if_past (nat_lt o.rows.start.0 o.rows.end.0) e
    by (CatchingUp target reason) e = absurd (none-some n e)
    by (Holding reason) e = absurd (none-some n e)
    by (ConsumingToOnline end done) e = absurd (none-some n e)
    by (Retaining done) e = absurd (none-some n e)
    by (Building reason) e = absurd (none-some n e)
    by (Starting reason built) e = absurd (none-some n e)
    by (Uploading reason built) e = absurd (none-some n e)
    by (Ending reason built path) e = absurd (none-some n e)
forced_few (phase.Retained kept) n h e = absurd (none-some n e)
forced_few (phase.Committed kept) n h e = absurd (none-some n e)
forced_few (phase.Discarded d) n h e = absurd (none-some n e)

stopped_few : (ph n : Phase) → stopped ph ≡ Some n → HasFew n
stopped_few (phase.Unsealed o) n e = by (stops_at o.stage) e
  where
    by : (b : Bool) → cond b (Some (stopped_at o.rows.end)) None ≡ Some n → HasFew n
    by true e = subst HasFew (same_Some (stopped_at o.rows.end) n e) tt
    by false e = absurd (none-some n e)
stopped_few (phase.Retained kept) n e = absurd (none-some n e)
stopped_few (phase.Committed kept) n e = absurd (none-some n e)
stopped_few (phase.Discarded d) n e = absurd (none-some n e)

does_few : (to : Option Phase) (old new : Consumer) (answer : Result (Unit {0}) ReplicaRefused) → ((n : Phase) → to ≡ Some n → HasFew n) → HasFew old.phase
    → Does to old new answer → HasFew new.phase
does_few to old new (Ok u) f h d = f new.phase d.0
does_few to old new (Err NotDue) f h d = same_few old new d.1 h
does_few to old new (Err Memory) f h d = absurd d

pub forces_few : (old new : Consumer) (answer : Result (Unit {0}) ReplicaRefused) → HasFew old.phase → Does (forced old.phase) old new answer → HasFew new.phase
forces_few old new answer h d = does_few (forced old.phase) old new answer (λ n e. forced_few old.phase n h e) h d

pub stops_few : (old new : Consumer) (answer : Result (Unit {0}) ReplicaRefused) → HasFew old.phase → Does (stopped old.phase) old new answer → HasFew new.phase
stops_few old new answer h d = does_few (stopped old.phase) old new answer (λ n e. stopped_few old.phase n e) h d

filed_few : (ph : Phase) (file : SealedSegment) → HasFew ph → HasFew (filed ph file)
filed_few (phase.Unsealed o) file h = by o.stage
  where
    by : (stage : Stage) → HasFew (filed_at o.rows stage file)
    by (Retaining done) = tt
    by (Building reason) = h
    by InitialConsuming = h
    by (CatchingUp target reason) = h
    by (Holding reason) = h
    by (ConsumingToOnline end done) = h
    by (Starting reason built) = h
    by (Uploading reason built) = h
    by (Ending reason built path) = h
filed_few (phase.Retained kept) file h = tt
filed_few (phase.Committed kept) file h = tt
filed_few (phase.Discarded d) file h = tt

pub builds_few : (old new : Consumer) (answer : Result (Unit {0}) ReplicaRefused) → HasFew old.phase → Builds old new answer → HasFew new.phase
builds_few old new (Ok u) h b = subst (λ (r : Consumer). HasFew r.phase) (sym b.1.2) (filed_few old.phase b.1.0 h)
builds_few old new (Err NotDue) h b = same_few old new b.1 h
builds_few old new (Err Memory) h b = same_few old new b.1 h

pub requests_few : (old new : Consumer) (before after : Numbered) (answer : Result Request ReplicaRefused) → HasFew old.phase → Requests old new before after answer → HasFew new.phase
requests_few old new before after (Ok request) h a = subst (λ (r : Consumer). HasFew r.phase) (sym a.2) h
requests_few old new before after (Err NotDue) h a = same_few old new a.1 h
requests_few old new before after (Err Memory) h a = same_few old new a.1 h

pub extends_few : (old new : Consumer) (before after : Numbered) (millis : ℕ) (answer : Result Request ReplicaRefused) → HasFew old.phase
    → Extends old new before after millis answer → HasFew new.phase
extends_few old new before after millis (Ok request) h a = subst (λ (r : Consumer). HasFew r.phase) (sym a.2) h
extends_few old new before after millis (Err NotDue) h a = same_few old new a.1 h
extends_few old new before after millis (Err Memory) h a = absurd a

-- ---- answers

abbrev TurnsFew : Turn → Type 0
TurnsFew (Stays ph) = HasFew ph
TurnsFew (Goes ph) = HasFew ph

module _ (rows : Consuming) (h : length rows.rows ≤ 1000000) where
  consumed_few : (reason : Reason) (status : ReplyStatus) → TurnsFew (reply_consumed rows reason status)
  consumed_few reason (CatchUp t) = either TurnsFew (nat_lt rows.end.0 t.0) _ _ h h
  consumed_few reason (Commit x) = either TurnsFew (x.0 == rows.end.0) _ _ h h
  consumed_few reason (Keep seen) = either TurnsFew (ends_at rows.end seen) _ _ h h
  consumed_few reason Discard = tt
  consumed_few reason Hold = h
  consumed_few reason NotLeader = h
  consumed_few reason CommitContinue = h
  consumed_few reason (UploadSuccess path) = h
  consumed_few reason (CommitSuccess seen) = h
  consumed_few reason Processed = h
  consumed_few reason (Failed cause) = h

  keeps_few : (reason : Reason) (seen : SeenMeta) → TurnsFew (keeps rows reason seen)
  keeps_few reason seen = either TurnsFew (ends_at rows.end seen) _ _ h h

  continued_few : (reason : Reason) (built : SealedSegment) (status : ReplyStatus) → TurnsFew (continued rows reason built status)
  continued_few reason built (Keep seen) = keeps_few reason seen
  continued_few reason built Discard = tt
  continued_few reason built CommitContinue = h
  continued_few reason built (CatchUp t) = h
  continued_few reason built (Commit x) = h
  continued_few reason built Hold = h
  continued_few reason built NotLeader = h
  continued_few reason built (UploadSuccess path) = h
  continued_few reason built (CommitSuccess seen) = h
  continued_few reason built Processed = h
  continued_few reason built (Failed cause) = h

  uploaded_few : (reason : Reason) (built : SealedSegment) (status : ReplyStatus) → TurnsFew (uploaded rows reason built status)
  uploaded_few reason built (UploadSuccess path) = h
  uploaded_few reason built (Keep seen) = h
  uploaded_few reason built Discard = h
  uploaded_few reason built CommitContinue = h
  uploaded_few reason built (CatchUp t) = h
  uploaded_few reason built (Commit x) = h
  uploaded_few reason built Hold = h
  uploaded_few reason built NotLeader = h
  uploaded_few reason built (CommitSuccess seen) = h
  uploaded_few reason built Processed = h
  uploaded_few reason built (Failed cause) = h

  ended_few : (reason : Reason) (built : SealedSegment) (status : ReplyStatus) → TurnsFew (ended rows reason built status)
  ended_few reason built (Keep seen) = keeps_few reason seen
  ended_few reason built Discard = tt
  ended_few reason built (CommitSuccess seen) = either TurnsFew (ends_at rows.end seen) _ _ tt h
  ended_few reason built CommitContinue = h
  ended_few reason built (CatchUp t) = h
  ended_few reason built (Commit x) = h
  ended_few reason built Hold = h
  ended_few reason built NotLeader = h
  ended_few reason built (UploadSuccess path) = h
  ended_few reason built Processed = h
  ended_few reason built (Failed cause) = h

  answered_at_few : (stage : Stage) (status : ReplyStatus) → TurnsFew (answered_at rows stage status)
  answered_at_few (Holding reason) status = consumed_few reason status
  answered_at_few (Starting reason built) status = continued_few reason built status
  answered_at_few (Uploading reason built) status = uploaded_few reason built status
  answered_at_few (Ending reason built path) status = ended_few reason built status
  answered_at_few InitialConsuming status = h
  answered_at_few (CatchingUp target reason) status = h
  answered_at_few (ConsumingToOnline end done) status = h
  answered_at_few (Retaining done) status = h
  answered_at_few (Building reason) status = h

  extended_at_few : (stage : Stage) (b : Bool) → TurnsFew (extended_at rows stage b)
  extended_at_few (Building reason) b = either TurnsFew b _ _ h h
  extended_at_few (Starting reason built) b = either TurnsFew b _ _ h h
  extended_at_few InitialConsuming b = h
  extended_at_few (CatchingUp target reason) b = h
  extended_at_few (Holding reason) b = h
  extended_at_few (ConsumingToOnline end done) b = h
  extended_at_few (Retaining done) b = h
  extended_at_few (Uploading reason built) b = h
  extended_at_few (Ending reason built path) b = h

  learned_at_few : (done : SeenMeta) (end : Offset) → HasFew (learned_at rows done end)
  learned_at_few done end = either HasFew (nat_lt rows.end.0 end.0) _ _ h h

answered_few : (ph : Phase) (status : ReplyStatus) → HasFew ph → TurnsFew (answered ph status)
answered_few (phase.Unsealed o) status h = answered_at_few o.rows h o.stage status
answered_few (phase.Discarded d) status h = either TurnsFew (is_processed status) _ _ tt tt
answered_few (phase.Retained kept) status h = tt
answered_few (phase.Committed kept) status h = tt

extended_few : (ph : Phase) (status : ReplyStatus) → HasFew ph → TurnsFew (extended ph status)
extended_few (phase.Unsealed o) status h = extended_at_few o.rows h o.stage (is_processed status)
extended_few (phase.Discarded d) status h = tt
extended_few (phase.Retained kept) status h = tt
extended_few (phase.Committed kept) status h = tt

turn_few : (ph : Phase) (w : Waited) (status : ReplyStatus) → HasFew ph → TurnsFew (turn_by ph w status)
turn_few ph (Step number) status h = answered_few ph status h
turn_few ph (Extend number) status h = extended_few ph status h

turned_few : (r : Consumer) (t : Turn) → TurnsFew t → HasFew (turned r t).phase
turned_few r (Stays ph) h = h
turned_few r (Goes ph) h = h

replied_to_few : (r : Consumer) (w : Option Waited) (reply : Reply) → HasFew r.phase → HasFew (replied_to r w reply).phase
replied_to_few r None reply h = h
replied_to_few r (Some w) reply h =
    either (λ (x : Consumer). HasFew x.phase) (same_number (number_of w) reply.number) (turned r (turn_by r.phase w reply.status)) r
    (turned_few r (turn_by r.phase w reply.status) (turn_few r.phase w reply.status h)) h

pub replied_few : (r : Consumer) (reply : Reply) → HasFew r.phase → HasFew (replied r reply).phase
replied_few r reply h = replied_to_few r r.waited reply h

learned_in_few : (r : Consumer) (ph : Phase) (done : SeenMeta) (end : Offset) → HasFew r.phase → HasFew ph → HasFew (learned r ph done end).phase
learned_in_few r (phase.Unsealed o) done end was h = learned_at_few o.rows h done end
learned_in_few r (phase.Discarded d) done end was h = was
learned_in_few r (phase.Retained kept) done end was h = was
learned_in_few r (phase.Committed kept) done end was h = was

pub learned_few : (r : Consumer) (done : SeenMeta) (end : Offset) → HasFew r.phase → HasFew (learned r r.phase done end).phase
learned_few r done end h = learned_in_few r r.phase done end h h
