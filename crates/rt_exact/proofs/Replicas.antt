-- Each call of a replica through its server has one outcome.
use Rattle.std.proofs.Common.{◌≡◌, ◌+◌, ℕ, Option, Some, None, Result, Ok, Err, refl, sym, ◌∙◌, ap, subst}
use Rattle.std.proofs.lemmas.Option.{same_Some}
use Rattle.rt_base.specs.declared.numbers.Moment.{Moment}
use Rattle.rt_base.specs.declared.numbers.Partition.{Partition}
use Rattle.rt_base.specs.declared.numbers.Sequence.{Sequence}
use Rattle.rt_entry.specs.Calls.{ReplicaCall, answered_as}
use Rattle.rt_entry.specs.declared.entry.Entry.TheVariants.{Replica}
use Rattle.rt_entry.specs.declared.refused.ServerRefused.{ServerRefused}
use Rattle.rt_entry.specs.declared.refused.ServerRefused.TheVariants.{NotDue}
use Rattle.rt_events.specs.declared.outcome.Outcome.{Outcome}
use Rattle.rt_model.specs.declared.request.Request.{Request}
use Rattle.rt_model.specs.declared.request.RequestKind.{RequestKind}
use Rattle.rt_model.specs.declared.request.RequestNumber.{RequestNumber}
use Rattle.rt_msgs.specs.Numbered.{Numbered, number_at}
use Rattle.rt_consumer.specs.Batch.{Consumes, consumed}
use Rattle.rt_consumer.specs.Requests.{Asks, Builds, Does, Extends, IsSealedOf, Requests, filed, forced, kind_in, more_time, request_with, stopped}
use Rattle.rt_consumer.specs.declared.consumer.Consumer.{Consumer}
use Rattle.rt_consumer.specs.declared.phase.Phase.{Phase}
use Rattle.rt_consumer.specs.declared.phase.Phase.TheVariants as phase
use Rattle.rt_consumer.specs.declared.refused.ReplicaRefused.{ReplicaRefused}
use Rattle.rt_consumer.specs.declared.waited.Waited.{Waited}
use Rattle.rt_consumer.specs.declared.waited.Waited.TheVariants.{Step, Extend}
use Rattle.rt_segment.specs.Segment.{SealedSegment}
use Rattle.rt_server.specs.Calls.{InTable, Through, ThroughAt}
use Rattle.rt_server.specs.Table.{Segments, ServerState, put_back, replica_of}
use Rattle.rt_stream.specs.Feed.{log_meaning}
use Rattle.rt_stream.specs.Log.{Log}
use Rattle.rt_state.specs.Replicas.{NodeBuilds, NodeConsumes, NodeForces, NodeStops, built_in, consumed_in, standing_in}
use Rattle.rt_state.specs.Requests.{NodeAsks, NodeAsksFor}
use Rattle.rt_nodes.specs.declared.server_node.ServerNode.{ServerNode}
use Rattle.rt_exact.proofs.Ones.{IsOneAsk, IsOneCall, IsOneStep}
use Rattle.rt_exact.proofs.Sealed.{one_built}

-- ---- a call through the server

abbrev answer : (X : Type 0) → X → Result X ServerRefused
answer X x = Ok x

abbrev refusal : (X : Type 0) → ServerRefused → Result X ServerRefused
refusal X e = Err e

not_refused : (X : Type 0) (x : X) (e : ServerRefused) → answer X x ≡ refusal X e → ⊥
not_refused X x e h = cc

same_answer : (X : Type 0) (x y : X) → answer X x ≡ answer X y → x ≡ y
same_answer X x y e = cc

-- there is a replica, whose call gave this
pub record Went {X : Type 0} (call : ReplicaCall X) (old new : Segments) (p : Partition) (q : Sequence) (x : X) : Type 0 where
  pub replica : Consumer
  pub next : Consumer
  pub there : replica_of old p q ≡ Some replica
  pub called : call replica next (Ok x)
  pub put : new ≡ put_back old p q (Replica next)

went : {X : Type 0} (quiet : Type 0) (call : ReplicaCall X) (old new : Segments) (p : Partition) (q : Sequence) (x : X) → Through quiet call old new p q (Ok x)
    → Went call old new p q x
went {X} quiet call old new p q x h = by_replica (replica_of old p q) refl h
  where
    by_answer : (r next : Consumer) (given : Result X ReplicaRefused) → replica_of old p q ≡ Some r → call r next given → answer X x ≡ answered_as given
        → new ≡ put_back old p q (Replica next) → Went call old new p q x
    by_answer r next (Ok y) at c e put =
        record { replica = r; next = next; there = at; called = subst (λ z. call r next (Ok z)) (sym (same_answer X x y e)) c; put = put }
    by_answer r next (Err refused) at c e put = absurd (not_refused X x _ e)

    by_replica : (o : Option Consumer) → replica_of old p q ≡ o → ThroughAt o quiet call old new p q (Ok x) → Went call old new p q x
    by_replica None at g = absurd (not_refused X x NotDue g.1)
    by_replica (Some r) at (next, given, c, e, put) = by_answer r next given at c e put

-- two calls of one replica that leave one replica leave one table
one_table : {X : Type 0} (call other : ReplicaCall X) (old m n : Segments) (p : Partition) (q : Sequence) (x y : X) (h : Went call old m p q x) (k : Went other old n p q y)
    → ((r a b : Consumer) → call r a (Ok x) → other r b (Ok y) → (a ≡ b) × (x ≡ y)) → (m ≡ n) × (x ≡ y)
one_table call other old m n p q x y h k one =
    let same : h.replica ≡ k.replica = same_Some h.replica k.replica (sym h.there ∙ k.there) in
    let z = one k.replica h.next k.next (subst (λ r. call r h.next (Ok x)) same h.called) k.called in
    (h.put ∙ ap (λ r. put_back old p q (Replica r)) z.0 ∙ sym k.put, z.1)

-- ---- a server whose table is one

same_server : (a b : ServerState) → a.setup ≡ b.setup → a.numbers ≡ b.numbers → a.table ≡ b.table → a ≡ b
same_server a b e f g = λ t. record { setup = e t; numbers = f t; table = g t }

pub same_node : (m n : ServerNode) → m.server ≡ n.server → m.up ≡ n.up → m ≡ n
same_node m n e f = λ t. record { server = e t; up = f t }

pub node_by_table : (old m n : ServerNode) → InTable old.server m.server → InTable old.server n.server → m.up ≡ old.up → n.up ≡ old.up → m.server.table ≡ n.server.table → m ≡ n
node_by_table old m n h k u v e =
    same_node m n (same_server m.server n.server (h.0 ∙ sym k.0) (h.1 ∙ sym k.1) e) (u ∙ sym v)

-- what is told of a replica of one table is one
told_one : (tell : Option Consumer → Option Outcome) (m n : ServerNode) (p : Partition) (q : Sequence) (a b : Outcome) → m ≡ n
    → tell (replica_of m.server.table p q) ≡ Some a → tell (replica_of n.server.table p q) ≡ Some b → a ≡ b
told_one tell m n p q a b same e f = same_Some a b (sym e ∙ ap (λ (s : ServerNode). tell (replica_of s.server.table p q)) same ∙ f)

-- ---- force and stop

does_one : (to : Option Phase) (r a b : Consumer) → Does to r a (Ok tt) → Does to r b (Ok tt) → a ≡ b
does_one to r a b h k =
    let same : a.phase ≡ b.phase = same_Some a.phase b.phase (sym h.0 ∙ k.0) in
    let at : Phase → Consumer = λ x. record r { phase = x; waited = None } in
    h.1 ∙ ap at same ∙ sym k.1

pub forces_one : (p : Partition) (q : Sequence) → IsOneStep (NodeForces p q)
forces_one p q old m n a b h k =
    let left = went (Unit {0}) (λ r next answer. Does (forced r.phase) r next answer) old.server.table m.server.table p q tt h.0 in
    let right = went (Unit {0}) (λ r next answer. Does (forced r.phase) r next answer) old.server.table n.server.table p q tt k.0 in
    let table = one_table _ _ old.server.table m.server.table n.server.table p q tt tt left right (λ r x y c d. (does_one (forced r.phase) r x y c d, refl)) in
    let node = node_by_table old m n h.1 k.1 h.2 k.2 table.0 in
    (node, told_one standing_in m n p q a b node h.3 k.3)

pub stops_one : (p : Partition) (q : Sequence) → IsOneStep (NodeStops p q)
stops_one p q old m n a b h k =
    let left = went (Unit {0}) (λ r next answer. Does (stopped r.phase) r next answer) old.server.table m.server.table p q tt h.0 in
    let right = went (Unit {0}) (λ r next answer. Does (stopped r.phase) r next answer) old.server.table n.server.table p q tt k.0 in
    let table = one_table _ _ old.server.table m.server.table n.server.table p q tt tt left right (λ r x y c d. (does_one (stopped r.phase) r x y c d, refl)) in
    let node = node_by_table old m n h.1 k.1 h.2 k.2 table.0 in
    (node, told_one standing_in m n p q a b node h.3 k.3)

-- ---- build

sealed_one : (r : Consumer) (at : Phase) (f g : SealedSegment) → IsSealedOf r at f → IsSealedOf r at g → f ≡ g
sealed_one r (phase.Unsealed o) f g x y = one_built r.settings r.partition r.sequence o.rows f g x y
sealed_one r (phase.Retained kept) f g x y = absurd x
sealed_one r (phase.Committed kept) f g x y = absurd x
sealed_one r (phase.Discarded d) f g x y = absurd x

seals_one : (r a b : Consumer) → Builds r a (Ok tt) → Builds r b (Ok tt) → a ≡ b
seals_one r a b (due, (f, x, e)) (due', (g, y, e')) =
    let at : SealedSegment → Consumer = λ file. record r { phase = filed r.phase file; waited = None } in
    e ∙ ap at (sealed_one r r.phase f g x y) ∙ sym e'

pub builds_one : (p : Partition) (q : Sequence) → IsOneStep (NodeBuilds p q)
builds_one p q old m n a b h k =
    let left = went (Unit {0}) (λ r next answer. Builds r next answer) old.server.table m.server.table p q tt h.0 in
    let right = went (Unit {0}) (λ r next answer. Builds r next answer) old.server.table n.server.table p q tt k.0 in
    let table = one_table _ _ old.server.table m.server.table n.server.table p q tt tt left right (λ r x y c d. (seals_one r x y c d, refl)) in
    let node = node_by_table old m n h.1 k.1 h.2 k.2 table.0 in
    (node, told_one built_in m n p q a b node h.3 k.3)

-- ---- consume

abbrev whole : Log → Option Log
whole log = Some log

same_log : (a b : Log) → whole a ≡ whole b → a ≡ b
same_log a b e = cc

-- a look at a log in memory sees all of it
taken_one : (log s u : Log) (r a b : Consumer) (max : ℕ) (now : Moment) → Consumes (log_meaning log) (log_meaning s) r a max now (Ok tt)
    → Consumes (log_meaning log) (log_meaning u) r b max now (Ok tt) → (s ≡ u) × (a ≡ b)
taken_one log s u r a b max now h k =
    let e : s ≡ u = same_log s u (h.0.sees.0 ∙ sym k.0.sees.0) in
    (e, same_Some a b (sym h.1 ∙ ap (λ (l : Log). consumed r max now l) e ∙ k.1))

pub consumes_one : (p : Partition) (q : Sequence) (max : ℕ) (now : Moment) → IsOneCall (NodeConsumes p q max now)
consumes_one p q max now log s u old m n a b h k =
    let left = went (log_meaning s ≡ log_meaning log) (λ r next answer. Consumes (log_meaning log) (log_meaning s) r next max now answer) old.server.table m.server.table p q tt h.0 in
    let right = went (log_meaning u ≡ log_meaning log) (λ r next answer. Consumes (log_meaning log) (log_meaning u) r next max now answer) old.server.table n.server.table p q tt k.0 in
    let table = one_table _ _ old.server.table m.server.table n.server.table p q tt tt left right (λ r x y c d. ((taken_one log s u r x y max now c d).1, refl)) in
    let node = node_by_table old m n h.1 k.1 h.2 k.2 table.0 in
    let e : s ≡ u = same_log s u (left.called.0.sees.0 ∙ sym right.called.0.sees.0) in
    (e, node, told_one consumed_in m n p q a b node h.3 k.3)

-- ---- requests

same_numbers : (before s u : Numbered) → s ≡ record before { made = before.made + 1 } → u ≡ record before { made = before.made + 1 } → s ≡ u
same_numbers before s u e f = e ∙ sym f

asks_one : (due : Option RequestKind) (waited : Waited) (number : RequestNumber) (r a b : Consumer) (before s u : Numbered) (x y : Request)
    → Asks due waited number r a before s (Ok x) → Asks due waited number r b before u (Ok y) → (a ≡ b) × (s ≡ u) × (x ≡ y)
asks_one due waited number r a b before s u x y h k =
    let kind : x.kind ≡ y.kind = same_Some x.kind y.kind (sym h.0 ∙ k.0) in
    (h.2 ∙ sym k.2, h.3 ∙ sym k.3, h.1 ∙ ap (λ (z : RequestKind). request_with r number z) kind ∙ sym k.1)

-- a server that asked
asked_one : (old m n : ServerNode) (q r : Request) (call other : ReplicaCall Request) (p : Partition) (s : Sequence)
    (h : Went call old.server.table m.server.table p s q) (k : Went other old.server.table n.server.table p s r)
    → ((c a b : Consumer) → call c a (Ok q) → other c b (Ok r) → (a ≡ b) × (m.server.numbers ≡ n.server.numbers) × (q ≡ r))
    → m.server.setup ≡ old.server.setup → n.server.setup ≡ old.server.setup → m.up ≡ old.up → n.up ≡ old.up → (m ≡ n) × (q ≡ r)
asked_one old m n q r call other p s h k one e f u v =
    let table = one_table call other old.server.table m.server.table n.server.table p s q r h k (λ c a b x y. let z = one c a b x y in (z.0, z.2)) in
    let same : h.replica ≡ k.replica = same_Some h.replica k.replica (sym h.there ∙ k.there) in
    let numbers = one k.replica h.next k.next (subst (λ c. call c h.next (Ok q)) same h.called) k.called in
    (same_node m n (same_server m.server n.server (e ∙ sym f) numbers.1 table.0) (u ∙ sym v), table.1)

pub reports_one : (p : Partition) (s : Sequence) → IsOneAsk (NodeAsks p s)
reports_one p s old m n q r h k =
    let before = old.server.numbers in
    let left = went (m.server.numbers ≡ before) (λ c next answer. Requests c next before m.server.numbers answer) old.server.table m.server.table p s q h.0 in
    let right = went (n.server.numbers ≡ before) (λ c next answer. Requests c next before n.server.numbers answer) old.server.table n.server.table p s r k.0 in
    let number = number_at before before.made in
    asked_one old m n q r _ _ p s left right
    (λ c a b x y. asks_one (kind_in c.name number c.phase) (Step number) number c a b before m.server.numbers n.server.numbers q r x y) h.1 k.1 h.2 k.2

pub extends_one : (p : Partition) (s : Sequence) (millis : ℕ) → IsOneAsk (NodeAsksFor p s millis)
extends_one p s millis old m n q r h k =
    let before = old.server.numbers in
    let left = went (m.server.numbers ≡ before) (λ c next answer. Extends c next before m.server.numbers millis answer) old.server.table m.server.table p s q h.0 in
    let right = went (n.server.numbers ≡ before) (λ c next answer. Extends c next before n.server.numbers millis answer) old.server.table n.server.table p s r k.0 in
    let number = number_at before before.made in
    asked_one old m n q r _ _ p s left right
    (λ c a b x y. asks_one (more_time c.phase millis) (Extend number) number c a b before m.server.numbers n.server.numbers q r x y) h.1 k.1 h.2 k.2
