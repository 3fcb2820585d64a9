-- How a server asks: what its replica asks is what it answers, and a refused call changes nothing.
use Rattle.std.proofs.Common.{◌≡◌, ◌+◌, ℕ, Bool, true, false, cond, Option, Some, None, Result, Ok, Err, refl, sym, ap, subst, ◌∙◌}
use Rattle.rt_base.specs.declared.numbers.Partition.{Partition}
use Rattle.rt_base.specs.declared.numbers.Sequence.{Sequence}
use Rattle.rt_lists.proofs.Members.{front_push, front_same}
use Rattle.rt_stream.proofs.Growth.{log_same}
use Rattle.rt_model.specs.declared.request.Request.{Request}
use Rattle.rt_model.specs.declared.request.RequestKind.{RequestKind}
use Rattle.rt_model.specs.declared.request.RequestKind.TheVariants as kind
use Rattle.rt_model.specs.declared.request.RequestNumber.{RequestNumber}
use Rattle.rt_model.specs.declared.sent.Sent.TheVariants as sent
use Rattle.rt_model.specs.declared.setup.Setup.{Setup}
use Rattle.rt_msgs.specs.Numbered.{Numbered}
use Rattle.rt_past.specs.Past.{Past, Grows, with_request}
use Rattle.rt_consumer.specs.declared.consumer.Consumer.{Consumer}
use Rattle.rt_consumer.specs.declared.refused.ReplicaRefused.{ReplicaRefused}
use Rattle.rt_consumer.specs.declared.refused.ReplicaRefused.TheVariants as replica
use Rattle.rt_consumer.specs.declared.waited.Waited.{Waited}
use Rattle.rt_consumer.specs.Consumer.{number_of}
use Rattle.rt_replica.specs.Lasting.{IsAskedIn}
use Rattle.rt_consumer.specs.Requests.{Extends, Requests, request_with}
use Rattle.rt_entry.specs.declared.refused.ServerRefused.{ServerRefused}
use Rattle.rt_entry.specs.declared.refused.ServerRefused.TheVariants.{NotDue, Memory}
use Rattle.rt_entry.specs.Calls.{ReplicaCall, answered_as}
use Rattle.rt_server.specs.Calls.{Asks, AsksFor, ThroughAt}
use Rattle.rt_server.specs.Table.{Segments, ServerState, replica_of}
use Rattle.rt_server.proofs.Unchanged.{asks_for_stay, asks_stay}

pub request_grows : (past : Past) (q : Request) → Grows past (with_request past q)
request_grows past q =
    record { log = log_same past.log; history = front_same past.history; files = front_same past.files; sent = front_push past.sent (sent.Request q) }

abbrev pub server_of : Setup → Numbered → Segments → ServerState
server_of setup numbers table = record { setup = setup; numbers = numbers; table = table }

abbrev pub next_of : Numbered → Numbered
next_of n = record n { made = n.made + 1 }

-- a replica asks something, and waits for the answer
pub record AsksThis (number : RequestNumber) (w : Waited) (r next : Consumer) (before after : Numbered) (request : Request) : Type 0 where
  pub numbered : number_of w ≡ number
  pub asked : request ≡ request_with r number request.kind
  pub waits : next ≡ record r { waited = Some w }
  pub due : IsAskedIn r.name r.phase w request.kind
  pub numbers : after ≡ next_of before

-- ---- the calls

abbrev pub answered : Request → Result Request ServerRefused
answered q = Ok q

abbrev pub given : Request → Result Request ReplicaRefused
given q = Ok q

abbrev refuse : ServerRefused → Result Request ServerRefused
refuse e = Err e

pub same_answer : (a b : Request) → answered a ≡ answered b → a ≡ b
same_answer a b e = cc

pub no_answer : (e : ServerRefused) (q : Request) → answered q ≡ refuse e → ⊥
no_answer e q h = cc

pub answered_ok : (answer : Result Request ReplicaRefused) (request : Request) → answered request ≡ answered_as answer → answer ≡ given request
answered_ok (Ok x) request e = ap given (sym (same_answer request x e))
answered_ok (Err replica.NotDue) request e = absurd (no_answer NotDue request e)
answered_ok (Err replica.Memory) request e = absurd (no_answer Memory request e)

abbrev some : RequestKind → Option RequestKind
some x = Some x

pub more_is : (b : Bool) (millis : ℕ) (k : RequestKind) → cond b (some (kind.Extend millis)) None ≡ some k → (b ≡ true) × (kind.Extend millis ≡ k)
more_is true millis k e = (refl, cc)
more_is false millis k e = absurd (cc)

-- ---- a refused call

refused_err : (answer : Result Request ReplicaRefused) (e : ServerRefused) → refuse e ≡ answered_as answer → (x : ReplicaRefused) × (answer ≡ Err x)
refused_err (Ok x) e h = absurd (no_answer e x (sym h))
refused_err (Err x) e h = (x, refl)

requests_none : (r next : Consumer) (before after : Numbered) (x : ReplicaRefused) → Requests r next before after (Err x) → after ≡ before
requests_none r next before after replica.NotDue h = h.2
requests_none r next before after replica.Memory h = h.2

extends_none : (r next : Consumer) (before after : Numbered) (millis : ℕ) (x : ReplicaRefused) → Extends r next before after millis (Err x) → after ≡ before
extends_none r next before after millis replica.NotDue h = h.2
extends_none r next before after millis replica.Memory h = absurd h

none_drawn : (call : ReplicaCall Request) (before after : Numbered) (old new : Segments) (p : Partition) (q : Sequence) (e : ServerRefused) (o : Option Consumer)
    → ((r next : Consumer) (x : ReplicaRefused) → call r next (Err x) → after ≡ before) → ThroughAt o (after ≡ before) call old new p q (refuse e) → after ≡ before
none_drawn call before after old new p q e None none h = h.0
none_drawn call before after old new p q e (Some r) none h =
    let x = refused_err h.1 e h.3 in none r h.0 x.0 (subst (call r h.0) x.1 h.2)

same_server : (old new : ServerState) → new.setup ≡ old.setup → new.numbers ≡ old.numbers → new.table ≡ old.table → new ≡ old
same_server old new s n t =
    ap (λ x. server_of x new.numbers new.table) s ∙ ap (λ x. server_of old.setup x new.table) n ∙ ap (λ x. server_of old.setup old.numbers x) t

-- all is as before
pub asks_refused : (old new : ServerState) (p : Partition) (q : Sequence) (e : ServerRefused) → new.setup ≡ old.setup
    → Asks old.numbers new.numbers old.table new.table p q (Err e) → new ≡ old
asks_refused old new p q e of h =
    same_server old new of
    (none_drawn (λ r next answer. Requests r next old.numbers new.numbers answer) old.numbers new.numbers old.table new.table p q e (replica_of old.table p q)
    (λ r next x c. requests_none r next old.numbers new.numbers x c) h)
    (asks_stay old.numbers new.numbers old.table new.table p q e h)

pub asks_for_refused : (old new : ServerState) (p : Partition) (q : Sequence) (millis : ℕ) (e : ServerRefused) → new.setup ≡ old.setup
    → AsksFor old.numbers new.numbers millis old.table new.table p q (Err e) → new ≡ old
asks_for_refused old new p q millis e of h =
    same_server old new of
    (none_drawn (λ r next answer. Extends r next old.numbers new.numbers millis answer) old.numbers new.numbers old.table new.table p q e (replica_of old.table p q)
    (λ r next x c. extends_none r next old.numbers new.numbers millis x c) h)
    (asks_for_stay old.numbers new.numbers millis old.table new.table p q e h)
