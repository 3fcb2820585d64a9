-- A replica's call that is due is refused for want of memory alone, and after it the replica stands where it was.
use Rattle.std.proofs.Common.{◌≡◌, ◌&&◌, nat_lt, ℕ, Bool, true, false, cond, List, [], ◌∷◌, Option, Some, None, IsSome, Result, Ok, Err, refl, sym, ap, ◌∙◌}
use Rattle.std.specs.Map.{lookup, set_value}
use Rattle.rt_base.specs.declared.numbers.Moment.{Moment}
use Rattle.rt_base.specs.declared.numbers.Offset.{Offset}
use Rattle.rt_base.specs.declared.numbers.Partition.{Partition}
use Rattle.rt_base.specs.declared.numbers.Sequence.{Sequence}
use Rattle.rt_entry.specs.Calls.{ReplicaCall, answered_as}
use Rattle.rt_entry.specs.declared.entry.Entry.TheVariants.{Replica}
use Rattle.rt_entry.specs.declared.refused.ServerRefused.{ServerRefused}
use Rattle.rt_entry.specs.declared.refused.ServerRefused.TheVariants.{NotDue, Memory}
use Rattle.rt_model.specs.declared.request.RequestKind.{RequestKind}
use Rattle.rt_model.specs.declared.request.RequestNumber.{RequestNumber}
use Rattle.rt_msgs.specs.Numbered.{Numbered, number_at}
use Rattle.rt_consumer.specs.Batch.{Consumes, asked_at, asked_in}
use Rattle.rt_consumer.specs.Consumer.{asks_at, extends_in, state_of, state_at}
use Rattle.rt_consumer.specs.Requests.{Builds, Does, Extends, Requests, asks_now, forced, is_due, kind_at, kind_in, stopped, stops_at}
use Rattle.rt_consumer.specs.declared.consumer.Consumer.{Consumer}
use Rattle.rt_consumer.specs.declared.phase.Phase.{Phase}
use Rattle.rt_consumer.specs.declared.phase.Phase.TheVariants as phase
use Rattle.rt_consumer.specs.declared.refused.ReplicaRefused.{ReplicaRefused}
use Rattle.rt_consumer.specs.declared.refused.ReplicaRefused.TheVariants as replica
use Rattle.rt_consumer.specs.declared.stage.Stage.{Stage}
use Rattle.rt_consumer.specs.declared.stage.Stage.TheVariants.{InitialConsuming, CatchingUp, Holding, ConsumingToOnline, Retaining, Building, Starting, Uploading, Ending}
use Rattle.rt_server.proofs.Kept.{replica_found}
use Rattle.rt_server.specs.Calls.{Asks, AsksFor, Forces, Seals, Stops, Takes, ThroughAt}
use Rattle.rt_server.specs.Table.{Segments, entry_of, is_segment, put_back, replica_at, replica_of}
use Rattle.rt_stream.specs.Feed.{FeedMeaning}
use Rattle.rt_nodes.specs.Replicas.{builds_now, forces_now, passes, stops_in, stops_now, takes_in, takes_now}
use Rattle.rt_nodes.specs.Requests.{asks_due, extends_now}

-- ---- an entry that was changed is there

abbrev the : {X : Type 0} → X → Option X
the x = Some x

found_again : {K X : Type 0} (test : K → Bool) (es : List (K × X)) (old new : X) → lookup test es ≡ the old → lookup test (set_value test es new) ≡ the new
found_again test [] old new found = absurd (cc)
found_again {K} {X} test (e ∷ es) old new found = by (test e.0) refl (λ h. found_again test es old new h) found
  where
    by : (b : Bool) → test e.0 ≡ b → (lookup test es ≡ the old → lookup test (set_value test es new) ≡ the new)
        → cond b (the e.1) (lookup test es) ≡ the old → lookup test (cond b ((e.0, new) ∷ es) (e ∷ set_value test es new)) ≡ the new
    by true is again h = ap (λ b. cond b (the new) (lookup test es)) is
    by false is again h = ap (λ b. cond b (the e.1) (lookup test (set_value test es new))) is ∙ again h

pub put_stands : (t : Segments) (p : Partition) (q : Sequence) (r next : Consumer) → replica_of t p q ≡ the r → replica_of (put_back t p q (Replica next)) p q ≡ the next
put_stands t p q r next found =
    ap replica_at (found_again (is_segment p q) t.entries (Replica r) (Replica next) (replica_found (entry_of t p q) r found))

-- ---- through the server

abbrev pub answer : (X : Type 0) → X → Result X ServerRefused
answer X x = Ok x

abbrev pub refuse : (X : Type 0) → ServerRefused → Result X ServerRefused
refuse X e = Err e

pub not_refused : (X : Type 0) (e : ServerRefused) (x : X) → refuse X e ≡ answer X x → ⊥
not_refused X e x h = cc

same_refusal : (X : Type 0) (a b : ServerRefused) → refuse X a ≡ refuse X b → a ≡ b
same_refusal X a b e = cc

abbrev NeverUndue : {X : Type 0} → ReplicaCall X → (Consumer → Bool) → Type 0
NeverUndue call test = (r next : Consumer) → test r ≡ true → call r next (Err replica.NotDue) → ⊥

by_answer : {X : Type 0} (call : ReplicaCall X) (test : Consumer → Bool) (r next : Consumer) (a : Result X ReplicaRefused) (e : ServerRefused)
    → NeverUndue call test → test r ≡ true → call r next a → refuse X e ≡ answered_as a → e ≡ Memory
by_answer {X} call test r next (Ok x) e never due c is = absurd (not_refused X e x is)
by_answer {X} call test r next (Err replica.NotDue) e never due c is = absurd (never r next due c)
by_answer {X} call test r next (Err replica.Memory) e never due c is = same_refusal X e Memory is

through_refused : {X : Type 0} (quiet : Type 0) (call : ReplicaCall X) (test : Consumer → Bool) (old new : Segments) (p : Partition) (q : Sequence)
    (e : ServerRefused) (o : Option Consumer) → NeverUndue call test → passes test o ≡ true → ThroughAt o quiet call old new p q (Err e) → e ≡ Memory
through_refused quiet call test old new p q e None never due h = absurd (cc)
through_refused quiet call test old new p q e (Some r) never due h = by_answer call test r h.0 h.1 e never due h.2 h.3

stands_as : (o : Option Consumer) (r : Consumer) → o ≡ the r → IsSome o
stands_as None r e = absurd (cc)
stands_as (Some x) r e = refl

through_stands : {X : Type 0} (quiet : Type 0) (call : ReplicaCall X) (old new : Segments) (p : Partition) (q : Sequence) (x : X) (o : Option Consumer)
    → replica_of old p q ≡ o → ThroughAt o quiet call old new p q (Ok x) → IsSome (replica_of new p q)
through_stands {X} quiet call old new p q x None found h = absurd (not_refused X NotDue x (sym h.1))
through_stands quiet call old new p q x (Some r) found h =
    stands_as (replica_of new p q) h.0
    (ap (λ (t : Segments). replica_of t p q) h.4 ∙ put_stands old p q r h.0 found)

-- ---- consume

takes_asked : (s : Stage) (x : Offset) (max : ℕ) → takes_in (state_at s) ≡ true → asked_at s x max ≡ None → ⊥
takes_asked InitialConsuming x max t e = cc
takes_asked (CatchingUp target reason) x max t e = cc
takes_asked (ConsumingToOnline end done) x max t e = cc
takes_asked (Holding reason) x max t e = cc
takes_asked (Retaining done) x max t e = cc
takes_asked (Building reason) x max t e = cc
takes_asked (Starting reason built) x max t e = cc
takes_asked (Uploading reason built) x max t e = cc
takes_asked (Ending reason built path) x max t e = cc

takes_due : (ph : Phase) (max : ℕ) → takes_in (state_of ph) ≡ true → asked_in ph max ≡ None → ⊥
takes_due (phase.Unsealed o) max t e = takes_asked o.stage o.rows.end max t e
takes_due (phase.Retained kept) max t e = cc
takes_due (phase.Committed kept) max t e = cc
takes_due (phase.Discarded d) max t e = cc

first_of : (a b : Bool) → (a && b) ≡ true → a ≡ true
first_of true b h = refl
first_of false b h = absurd (cc)

pub takes_refused : (before after : FeedMeaning) (old new : Segments) (p : Partition) (q : Sequence) (max : ℕ) (now : Moment) (e : ServerRefused)
    → Takes before after old new p q max now (Err e) → passes (takes_now max) (replica_of old p q) ≡ true → e ≡ Memory
takes_refused before after old new p q max now e h due =
    through_refused (after ≡ before) (λ r next answer. Consumes before after r next max now answer) (takes_now max) old new p q e (replica_of old p q)
    (λ r next t c. takes_due r.phase max (first_of (takes_in (state_of r.phase)) (nat_lt 0 max) t) c.0) due h

pub takes_stands : (before after : FeedMeaning) (old new : Segments) (p : Partition) (q : Sequence) (max : ℕ) (now : Moment) (u : Unit {0})
    → Takes before after old new p q max now (Ok u) → IsSome (replica_of new p q)
takes_stands before after old new p q max now u h =
    through_stands (after ≡ before) (λ r next answer. Consumes before after r next max now answer) old new p q u (replica_of old p q) refl h

-- ---- force and stop

due_is : (o : Option Phase) → is_due o ≡ true → o ≡ None → ⊥
due_is None t e = cc
due_is (Some x) t e = cc

pub forces_refused : (old new : Segments) (p : Partition) (q : Sequence) (e : ServerRefused)
    → Forces old new p q (Err e) → passes forces_now (replica_of old p q) ≡ true → e ≡ Memory
forces_refused old new p q e h due =
    through_refused (Unit {0}) (λ r next answer. Does (forced r.phase) r next answer) forces_now old new p q e (replica_of old p q)
    (λ r next t c. due_is (forced r.phase) t c.0) due h

pub forces_stands : (old new : Segments) (p : Partition) (q : Sequence) (u : Unit {0}) → Forces old new p q (Ok u) → IsSome (replica_of new p q)
forces_stands old new p q u h =
    through_stands (Unit {0}) (λ r next answer. Does (forced r.phase) r next answer) old new p q u (replica_of old p q) refl h

stopped_due : (s : Stage) (x : Phase) → stops_in (state_at s) ≡ true → cond (stops_at s) (the x) None ≡ None → ⊥
stopped_due InitialConsuming x t e = cc
stopped_due (CatchingUp target reason) x t e = cc
stopped_due (ConsumingToOnline end done) x t e = cc
stopped_due (Holding reason) x t e = cc
stopped_due (Retaining done) x t e = cc
stopped_due (Building reason) x t e = cc
stopped_due (Starting reason built) x t e = cc
stopped_due (Uploading reason built) x t e = cc
stopped_due (Ending reason built path) x t e = cc

stops_due : (ph : Phase) → stops_in (state_of ph) ≡ true → stopped ph ≡ None → ⊥
stops_due (phase.Unsealed o) t e = stopped_due o.stage _ t e
stops_due (phase.Retained kept) t e = cc
stops_due (phase.Committed kept) t e = cc
stops_due (phase.Discarded d) t e = cc

pub stops_refused : (old new : Segments) (p : Partition) (q : Sequence) (e : ServerRefused)
    → Stops old new p q (Err e) → passes stops_now (replica_of old p q) ≡ true → e ≡ Memory
stops_refused old new p q e h due =
    through_refused (Unit {0}) (λ r next answer. Does (stopped r.phase) r next answer) stops_now old new p q e (replica_of old p q)
    (λ r next t c. stops_due r.phase t c.0) due h

pub stops_stands : (old new : Segments) (p : Partition) (q : Sequence) (u : Unit {0}) → Stops old new p q (Ok u) → IsSome (replica_of new p q)
stops_stands old new p q u h =
    through_stands (Unit {0}) (λ r next answer. Does (stopped r.phase) r next answer) old new p q u (replica_of old p q) refl h

-- ---- build

not_both : (b : Bool) → b ≡ true → b ≡ false → ⊥
not_both b t f = cc

pub seals_refused : (old new : Segments) (p : Partition) (q : Sequence) (e : ServerRefused)
    → Seals old new p q (Err e) → passes builds_now (replica_of old p q) ≡ true → e ≡ Memory
seals_refused old new p q e h due =
    through_refused (Unit {0}) (λ r next answer. Builds r next answer) builds_now old new p q e (replica_of old p q)
    (λ r next t c. not_both (builds_now r) t c.0) due h

pub seals_stands : (old new : Segments) (p : Partition) (q : Sequence) (u : Unit {0}) → Seals old new p q (Ok u) → IsSome (replica_of new p q)
seals_stands old new p q u h =
    through_stands (Unit {0}) (λ r next answer. Builds r next answer) old new p q u (replica_of old p q) refl h

-- ---- requests

kind_due : (s : Stage) (name : List ℕ) (number : RequestNumber) → asks_at s ≡ true → kind_at name number s ≡ None → ⊥
kind_due InitialConsuming name number t e = cc
kind_due (CatchingUp target reason) name number t e = cc
kind_due (ConsumingToOnline end done) name number t e = cc
kind_due (Holding reason) name number t e = cc
kind_due (Retaining done) name number t e = cc
kind_due (Building reason) name number t e = cc
kind_due (Starting reason built) name number t e = cc
kind_due (Uploading reason built) name number t e = cc
kind_due (Ending reason built path) name number t e = cc

stop_due : (b : Bool) (k : RequestKind) → b ≡ true → cond b (the k) None ≡ None → ⊥
stop_due true k t e = cc
stop_due false k t e = cc

asks_kind : (ph : Phase) (name : List ℕ) (number : RequestNumber) → asks_now ph ≡ true → kind_in name number ph ≡ None → ⊥
asks_kind (phase.Unsealed o) name number t e = kind_due o.stage name number t e
asks_kind (phase.Retained kept) name number t e = cc
asks_kind (phase.Committed kept) name number t e = cc
asks_kind (phase.Discarded d) name number t e = stop_due d.stopped _ t e

pub asks_refused : (before after : Numbered) (old new : Segments) (p : Partition) (q : Sequence) (e : ServerRefused)
    → Asks before after old new p q (Err e) → passes asks_due (replica_of old p q) ≡ true → e ≡ Memory
asks_refused before after old new p q e h due =
    through_refused (after ≡ before) (λ r next answer. Requests r next before after answer) asks_due old new p q e (replica_of old p q)
    (λ r next t c. asks_kind r.phase r.name (number_at before before.made) t c.0) due h

pub extends_refused : (before after : Numbered) (millis : ℕ) (old new : Segments) (p : Partition) (q : Sequence) (e : ServerRefused)
    → AsksFor before after millis old new p q (Err e) → passes extends_now (replica_of old p q) ≡ true → e ≡ Memory
extends_refused before after millis old new p q e h due =
    through_refused (after ≡ before) (λ r next answer. Extends r next before after millis answer) extends_now old new p q e (replica_of old p q)
    (λ r next t c. not_both (extends_in r.phase) t c.0) due h
