-- What is true of a replica stays true by its calls.
use Rattle.std.proofs.Common.{◌≡◌, ◌<◌, ◌≤◌, ◌⊎◌, ℕ, Bool, true, false, cond, nat_lt, List, length, drop, Option, Some, None, option_map, Result, Ok, Err, refl, ap, sym, subst, inl, inr, ◌∙◌, arith}
use Rattle.std.proofs.lemmas.List.{length-take}
use Rattle.std.proofs.lemmas.Bool.{cases_eq, ltb-true, ltb-false, false≢true}
use Rattle.rt_base.specs.declared.numbers.Moment.{Moment}
use Rattle.rt_base.specs.declared.numbers.Offset.{Offset}
use Rattle.rt_base.specs.declared.numbers.Partition.{Partition}
use Rattle.rt_base.specs.declared.numbers.Sequence.{Sequence}
use Rattle.rt_mutable.specs.Consuming.{Consuming}
use Rattle.rt_segment.specs.Segment.{SealedSegment}
use Rattle.rt_stream.specs.Feed.{FeedMeaning}
use Rattle.rt_stream.specs.Log.{Log, messages_of}
use Rattle.rt_model.specs.Setup.{IsSetup}
use Rattle.rt_model.specs.declared.reply.Reply.{Reply}
use Rattle.rt_model.specs.declared.request.Reason.TheVariants.{Force}
use Rattle.rt_model.specs.declared.request.Request.{Request}
use Rattle.rt_model.specs.declared.request.RequestKind.{RequestKind}
use Rattle.rt_model.specs.declared.request.RequestKind.TheVariants as kind
use Rattle.rt_msgs.specs.Numbered.{Numbered, number_at}
use Rattle.rt_model.specs.declared.request.RequestNumber.{RequestNumber}
use Rattle.rt_model.specs.declared.seg_meta.SeenMeta.{SeenMeta}
use Rattle.rt_model.specs.declared.seg_meta.SegMeta.{SegMeta}
use Rattle.rt_model.specs.declared.setup.Setup.{Setup}
use Rattle.rt_consumer.specs.declared.phase.Phase.{Phase}
use Rattle.rt_consumer.specs.declared.phase.Phase.TheVariants as phase
use Rattle.rt_consumer.specs.declared.refused.ReplicaRefused.{ReplicaRefused}
use Rattle.rt_consumer.specs.declared.refused.ReplicaRefused.TheVariants.{NotDue, Memory}
use Rattle.rt_consumer.specs.declared.settings.Settings.{Settings}
use Rattle.rt_consumer.specs.declared.stage.Stage.{Stage}
use Rattle.rt_consumer.specs.declared.stage.Stage.TheVariants.{InitialConsuming, CatchingUp, Holding, ConsumingToOnline, Retaining, Building, Starting, Uploading, Ending}
use Rattle.rt_consumer.specs.declared.waited.Waited.TheVariants.{Step, Extend}
use Rattle.rt_consumer.specs.declared.consumer.Consumer.{Consumer}
use Rattle.rt_consumer.specs.Consumer.{IsConsumer, IsPhase, IsStage, IsBuilt, AreRows, at, cur, cur_in, started_of, end_of, asks_in, extends_in, asks_at}
use Rattle.rt_consumer.specs.Batch.{asked_in, filled, row_limit, taken, taken_in, messages_from, Consumes}
use Rattle.rt_consumer.specs.Requests.{filed_at, filed, builds_at, builds_in, IsSealedOf, kind_at, kind_in, learned_at, learned, Does, forced, forced_at, stopped, stopped_at, stops_at, Builds, Requests, Extends}
use Rattle.rt_consumer.specs.Replies.{replied}
use Rattle.rt_replica.proofs.Turns.{replied_is}
use Rattle.rt_replica.proofs.Batches.{Further, filled_further, rows_kept, stage_is}

one_or_two : (f : ℕ) → 1 ≤ f → f ≤ 2 → (f ≡ 1) ⊎ (f ≡ 2)
one_or_two f low high = elim (cases_eq f 1) [
  | inl same ↦ inl same
  | inr apart ↦ inr (omega (arith, low, high, apart))
]

pub started_is : (setup : Setup) (p : Partition) (q : Sequence) (meta : SegMeta) (now : Moment) → IsSetup setup → IsConsumer (started_of setup p q meta now)
started_is setup p q meta now s = record {
  settings = record { schema = s.schema; indexed = s.table.columns; rows = s.table.rows; format = one_or_two setup.format s.first_format s.last_format };
  phase = (record { columns = refl; first = refl; few = omega arith }, tt);
  waited = tt;
}

-- ---- a batch

taken_in_is : (r : Consumer) (p : Phase) (max count : ℕ) (now : Moment) (messages : List (List ℕ)) → asked_in p max ≡ Some count → length messages ≤ count
    → IsConsumer r → IsPhase r.settings r.partition r.sequence r.start p → IsConsumer (taken_in r p now messages)
taken_in_is r (phase.Unsealed o) max count now messages asked le c k =
    let new = filled r.settings.schema (row_limit r.settings o.stage) o.rows messages in
    let f = filled_further r.settings.schema (row_limit r.settings o.stage) o.rows messages in
    let g : Further o.rows new count = record { columns = f.columns; start = f.start; onward = f.onward; most = omega (arith, f.most, le); few = f.few } in
    record {
      settings = c.settings;
      phase = (
        rows_kept r.settings r.start o.rows new count k.0 g,
        stage_is r.settings r.partition r.sequence r.started now c.settings r.start o.rows new o.stage max count asked k.0 k.1 g,
      );
      waited = tt;
    }
taken_in_is r (phase.Retained kept) max count now messages asked le c k = c
taken_in_is r (phase.Committed kept) max count now messages asked le c k = c
taken_in_is r (phase.Discarded d) max count now messages asked le c k = c

pub taken_is : (r : Consumer) (max count : ℕ) (now : Moment) (messages : List (List ℕ)) → asked_in r.phase max ≡ Some count → length messages ≤ count
    → IsConsumer r → IsConsumer (taken r now messages)
taken_is r max count now messages asked le c = taken_in_is r r.phase max count now messages asked le c c.phase

-- ---- a file

filed_at_is : (settings : Settings) (p : Partition) (q : Sequence) (start : Offset) (rows : Consuming) (stage : Stage) (file : SealedSegment)
    → builds_at stage ≡ true → IsBuilt settings p q rows file → AreRows settings start rows → IsStage settings p q rows stage → IsPhase settings p q start (filed_at rows stage file)
filed_at_is settings p q start rows (Retaining done) file e b h k = record {
  whole = b.whole;
  columns = b.columns;
  segment = (b.seals.partition, b.seals.sequence);
  first = ap (λ r. r.start) b.seals.range ∙ h.first;
  told = k.1 ∙ ap (λ r. Some r.end) (sym b.seals.range);
}
filed_at_is settings p q start rows (Building reason) file e b h k = (h, (k, b))
filed_at_is settings p q start rows InitialConsuming file e b h k = absurd (false≢true e)
filed_at_is settings p q start rows (CatchingUp target reason) file e b h k = absurd (false≢true e)
filed_at_is settings p q start rows (Holding reason) file e b h k = absurd (false≢true e)
filed_at_is settings p q start rows (ConsumingToOnline end done) file e b h k = absurd (false≢true e)
filed_at_is settings p q start rows (Starting reason built) file e b h k = absurd (false≢true e)
filed_at_is settings p q start rows (Uploading reason built) file e b h k = absurd (false≢true e)
filed_at_is settings p q start rows (Ending reason built path) file e b h k = absurd (false≢true e)

filed_is : (r : Consumer) (p : Phase) (file : SealedSegment) → builds_in p ≡ true → IsSealedOf r p file → IsPhase r.settings r.partition r.sequence r.start p
    → IsPhase r.settings r.partition r.sequence r.start (filed p file)
filed_is r (phase.Unsealed o) file e b k = filed_at_is r.settings r.partition r.sequence r.start o.rows o.stage file e b k.0 k.1
filed_is r (phase.Retained kept) file e b k = k
filed_is r (phase.Committed kept) file e b k = k
filed_is r (phase.Discarded d) file e b k = k

pub built_is : (r : Consumer) (file : SealedSegment) → builds_in r.phase ≡ true → IsSealedOf r r.phase file → IsConsumer r
    → IsConsumer (record r { phase = filed r.phase file; waited = None })
built_is r file e b c = record { settings = c.settings; phase = filed_is r r.phase file e b c.phase; waited = tt }

-- ---- requests

kind_asks_at : (name : List ℕ) (number : RequestNumber) (s : Stage) (k : RequestKind) → kind_at name number s ≡ Some k → asks_at s ≡ true
kind_asks_at name number (Holding reason) k e = refl
kind_asks_at name number (Starting reason built) k e = refl
kind_asks_at name number (Uploading reason built) k e = refl
kind_asks_at name number (Ending reason built path) k e = refl
kind_asks_at name number InitialConsuming k e = cc
kind_asks_at name number (CatchingUp target reason) k e = cc
kind_asks_at name number (ConsumingToOnline end done) k e = cc
kind_asks_at name number (Retaining done) k e = cc
kind_asks_at name number (Building reason) k e = cc

kind_asks : (name : List ℕ) (number : RequestNumber) (p : Phase) (k : RequestKind) → kind_in name number p ≡ Some k → asks_in p ≡ true
kind_asks name number (phase.Unsealed o) k e = kind_asks_at name number o.stage k e
kind_asks name number (phase.Discarded d) k e = refl
kind_asks name number (phase.Retained kept) k e = cc
kind_asks name number (phase.Committed kept) k e = cc

pub asked_is : (r : Consumer) (number : RequestNumber) (k : RequestKind) → kind_in r.name number r.phase ≡ Some k → IsConsumer r
    → IsConsumer (record r { waited = Some (Step number) })
asked_is r number k e c = record { settings = c.settings; phase = c.phase; waited = kind_asks r.name number r.phase k e }

pub extended_is : (r : Consumer) (number : RequestNumber) → extends_in r.phase ≡ true → IsConsumer r → IsConsumer (record r { waited = Some (Extend number) })
extended_is r number e c = record { settings = c.settings; phase = c.phase; waited = e }

-- ---- the metadata of a commit

phase_by : (P : Phase → Type 0) (b : Bool) (x y : Phase) → (b ≡ true → P x) → (b ≡ false → P y) → P (cond b x y)
phase_by P true x y h k = h refl
phase_by P false x y h k = k refl

learned_at_is : (settings : Settings) (p : Partition) (q : Sequence) (start : Offset) (rows : Consuming) (done : SeenMeta) (end : Offset)
    → end_of done ≡ Some end → start.0 < end.0 → rows.end.0 ≤ end.0 → AreRows settings start rows → IsPhase settings p q start (learned_at rows done end)
learned_at_is settings p q start rows done end told past within h =
    let Is : Phase → Type 0 = IsPhase settings p q start in
    phase_by Is (nat_lt rows.end.0 end.0) _ _
    (λ e. (h, (ltb-true _ _ e, told)))
    (λ e.
    let same : end.0 ≡ rows.end.0 = omega (arith, ltb-false _ _ e, within) in
    (h, (omega (arith, past, same, ap (λ x. x.0) h.first), told ∙ ap (λ n. Some (record { 0 = n })) same)))

learned_in_is : (r : Consumer) (p : Phase) (done : SeenMeta) (end : Offset) → end_of done ≡ Some end → r.start.0 < end.0 → (cur_in p).0 ≤ end.0 → IsConsumer r
    → IsPhase r.settings r.partition r.sequence r.start p → IsConsumer (learned r p done end)
learned_in_is r (phase.Unsealed o) done end told past within c k =
    record { settings = c.settings; phase = learned_at_is r.settings r.partition r.sequence r.start o.rows done end told past within k.0; waited = tt }
learned_in_is r (phase.Discarded d) done end told past within c k = c
learned_in_is r (phase.Retained kept) done end told past within c k = c
learned_in_is r (phase.Committed kept) done end told past within c k = c

pub learned_is : (r : Consumer) (done : SeenMeta) (end : Offset) → end_of done ≡ Some end → r.start.0 < end.0 → (cur r).0 ≤ end.0 → IsConsumer r
    → IsConsumer (learned r r.phase done end)
learned_is r done end told past within c = learned_in_is r r.phase done end told past within c c.phase

-- ---- the calls

abbrev the : Consumer → Option Consumer
the r = Some r

abbrev the_phase : Phase → Option Phase
the_phase p = Some p

no_such : (r : Consumer) → None ≡ the r → ⊥
no_such r e = cc

same_consumer : (r s : Consumer) → the r ≡ the s → r ≡ s
same_consumer r s e = cc

no_phase : (p : Phase) → None ≡ the_phase p → ⊥
no_phase p e = cc

same_phase : (p n : Phase) → the_phase p ≡ the_phase n → p ≡ n
same_phase p n e = cc

consumed_is : (r : Consumer) (max : ℕ) (now : Moment) (log : Log) (new : Consumer) (o : Option ℕ) → asked_in r.phase max ≡ o
    → option_map (λ count. taken r now (messages_from log r.partition (cur r) count)) o ≡ the new → IsConsumer r → IsConsumer new
consumed_is r max now log new None asked e c = absurd (no_such new e)
consumed_is r max now log new (Some count) asked e c =
    let messages = messages_from log r.partition (cur r) count in
    subst IsConsumer (same_consumer (taken r now messages) new e)
    (taken_is r max count now messages asked (omega (arith, length-take count (drop (cur r).0 (messages_of log r.partition)))) c)

pub consumes_is : (before after : FeedMeaning) (old new : Consumer) (max : ℕ) (now : Moment) (result : Result (Unit {0}) ReplicaRefused)
    → Consumes before after old new max now result → IsConsumer old → IsConsumer new
consumes_is before after old new max now (Ok u) h c = consumed_is old max now after.seen new (asked_in old.phase max) refl h.1 c
consumes_is before after old new max now (Err NotDue) h c = subst IsConsumer (sym h.1) c
consumes_is before after old new max now (Err Memory) h c = subst IsConsumer (sym h.1) c

forced_by : (r : Consumer) (rows : Consuming) (n : Phase) (b : Bool) → nat_lt rows.start.0 rows.end.0 ≡ b
    → cond b (the_phase (at rows (Holding Force))) None ≡ the_phase n → AreRows r.settings r.start rows → IsPhase r.settings r.partition r.sequence r.start n
forced_by r rows n true t e h = subst (IsPhase r.settings r.partition r.sequence r.start) (same_phase _ n e) (h, ltb-true _ _ t)
forced_by r rows n false t e h = absurd (no_phase n e)

forced_at_is : (r : Consumer) (rows : Consuming) (s : Stage) (n : Phase) → forced_at rows s ≡ the_phase n → AreRows r.settings r.start rows → IsPhase r.settings r.partition r.sequence r.start n
forced_at_is r rows InitialConsuming n e h = forced_by r rows n (nat_lt rows.start.0 rows.end.0) refl e h
forced_at_is r rows (CatchingUp target reason) n e h = absurd (no_phase n e)
forced_at_is r rows (Holding reason) n e h = absurd (no_phase n e)
forced_at_is r rows (ConsumingToOnline end done) n e h = absurd (no_phase n e)
forced_at_is r rows (Retaining done) n e h = absurd (no_phase n e)
forced_at_is r rows (Building reason) n e h = absurd (no_phase n e)
forced_at_is r rows (Starting reason built) n e h = absurd (no_phase n e)
forced_at_is r rows (Uploading reason built) n e h = absurd (no_phase n e)
forced_at_is r rows (Ending reason built path) n e h = absurd (no_phase n e)

forced_is : (r : Consumer) (p n : Phase) → forced p ≡ the_phase n → IsPhase r.settings r.partition r.sequence r.start p → IsPhase r.settings r.partition r.sequence r.start n
forced_is r (phase.Unsealed o) n e k = forced_at_is r o.rows o.stage n e k.0
forced_is r (phase.Retained kept) n e k = absurd (no_phase n e)
forced_is r (phase.Committed kept) n e k = absurd (no_phase n e)
forced_is r (phase.Discarded d) n e k = absurd (no_phase n e)

stopped_by : (r : Consumer) (x : Offset) (n : Phase) (b : Bool) → cond b (the_phase (stopped_at x)) None ≡ the_phase n → IsPhase r.settings r.partition r.sequence r.start n
stopped_by r x n true e = subst (IsPhase r.settings r.partition r.sequence r.start) (same_phase _ n e) tt
stopped_by r x n false e = absurd (no_phase n e)

stopped_is : (r : Consumer) (p n : Phase) → stopped p ≡ the_phase n → IsPhase r.settings r.partition r.sequence r.start n
stopped_is r (phase.Unsealed o) n e = stopped_by r o.rows.end n (stops_at o.stage) e
stopped_is r (phase.Retained kept) n e = absurd (no_phase n e)
stopped_is r (phase.Committed kept) n e = absurd (no_phase n e)
stopped_is r (phase.Discarded d) n e = absurd (no_phase n e)

moved_is : (old new : Consumer) → new ≡ record old { phase = new.phase; waited = None } → IsConsumer old
    → IsPhase old.settings old.partition old.sequence old.start new.phase → IsConsumer new
moved_is old new e c k = subst IsConsumer (sym e) (record { settings = c.settings; phase = k; waited = tt })

pub forces_is : (old new : Consumer) (result : Result (Unit {0}) ReplicaRefused) → Does (forced old.phase) old new result → IsConsumer old → IsConsumer new
forces_is old new (Ok u) h c = moved_is old new h.1 c (forced_is old old.phase new.phase h.0 c.phase)
forces_is old new (Err NotDue) h c = subst IsConsumer (sym h.1) c
forces_is old new (Err Memory) h c = absurd h

pub stops_is : (old new : Consumer) (result : Result (Unit {0}) ReplicaRefused) → Does (stopped old.phase) old new result → IsConsumer old → IsConsumer new
stops_is old new (Ok u) h c = moved_is old new h.1 c (stopped_is old old.phase new.phase h.0)
stops_is old new (Err NotDue) h c = subst IsConsumer (sym h.1) c
stops_is old new (Err Memory) h c = absurd h

pub builds_is : (old new : Consumer) (result : Result (Unit {0}) ReplicaRefused) → Builds old new result → IsConsumer old → IsConsumer new
builds_is old new (Ok u) h c = subst IsConsumer (sym h.1.2) (built_is old h.1.0 h.0 h.1.1 c)
builds_is old new (Err NotDue) h c = subst IsConsumer (sym h.1) c
builds_is old new (Err Memory) h c = subst IsConsumer (sym h.1) c

pub requests_is : (old new : Consumer) (before after : Numbered) (result : Result Request ReplicaRefused) → Requests old new before after result → IsConsumer old → IsConsumer new
requests_is old new before after (Ok request) h c = subst IsConsumer (sym h.2) (asked_is old (number_at before before.made) request.kind h.0 c)
requests_is old new before after (Err NotDue) h c = subst IsConsumer (sym h.1) c
requests_is old new before after (Err Memory) h c = subst IsConsumer (sym h.1) c

abbrev the_kind : RequestKind → Option RequestKind
the_kind k = Some k

more_time_due : (b : Bool) (millis : ℕ) (k : RequestKind) → cond b (the_kind (kind.Extend millis)) None ≡ the_kind k → b ≡ true
more_time_due true millis k e = refl
more_time_due false millis k e = cc

pub extends_is : (old new : Consumer) (before after : Numbered) (millis : ℕ) (result : Result Request ReplicaRefused) → Extends old new before after millis result → IsConsumer old → IsConsumer new
extends_is old new before after millis (Ok request) h c =
    subst IsConsumer (sym h.2) (extended_is old (number_at before before.made) (more_time_due (extends_in old.phase) millis request.kind h.0) c)
extends_is old new before after millis (Err NotDue) h c = subst IsConsumer (sym h.1) c
extends_is old new before after millis (Err Memory) h c = absurd h

pub replies_is : (old new : Consumer) (reply : Reply) → new ≡ replied old reply → IsConsumer old → IsConsumer new
replies_is old new reply e c = subst IsConsumer (sym e) (replied_is old old.waited reply c)
