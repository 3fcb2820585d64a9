-- What a replica asks, and that it takes the answer.
use Rattle.std.proofs.Common.{◌≡◌, ◌==◌, ◌&&◌, ◌++◌, ◌∷◌, [], Bool, true, false, cond, List, length, Option, Some, None, Ok, refl, sym, ◌∙◌, ap, subst, slice_get}
use Rattle.std.specs.Map.{lookup, set_value}
use Rattle.std.proofs.lemmas.Bool.{eq-eqb}
use Rattle.std.proofs.lemmas.Option.{none-some}
use Rattle.rt_base.specs.declared.numbers.Instance.{Instance}
use Rattle.rt_base.specs.declared.numbers.Partition.{Partition}
use Rattle.rt_base.specs.declared.numbers.Sequence.{Sequence}
use Rattle.rt_consumer.specs.Consumer.{state_of}
use Rattle.rt_consumer.specs.Replies.{is_answer, replied}
use Rattle.rt_consumer.specs.Requests.{Requests}
use Rattle.rt_consumer.specs.declared.consumer.Consumer.{Consumer}
use Rattle.rt_consumer.specs.declared.waited.Waited.{Waited}
use Rattle.rt_consumer.specs.declared.waited.Waited.TheVariants.{Step}
use Rattle.rt_entry.specs.declared.entry.Entry.{Entry}
use Rattle.rt_entry.specs.declared.entry.Entry.TheVariants.{Replica}
use Rattle.rt_entry.specs.declared.refused.ServerRefused.TheVariants.{NotDue}
use Rattle.rt_events.specs.declared.event.Event.TheVariants as event
use Rattle.rt_events.specs.declared.outcome.Outcome.{Outcome}
use Rattle.rt_events.specs.declared.outcome.Outcome.TheVariants as came
use Rattle.rt_lists.proofs.Members.{slice_get-push}
use Rattle.rt_macros.specs.Outcomes.{state_in}
use Rattle.rt_model.specs.Messages.{same_number}
use Rattle.rt_model.specs.declared.reply.Reply.{Reply}
use Rattle.rt_model.specs.declared.request.Request.{Request}
use Rattle.rt_model.specs.declared.request.RequestNumber.{RequestNumber}
use Rattle.rt_model.specs.declared.sent.Sent.TheVariants as sent
use Rattle.rt_msgs.specs.Numbered.{number_at}
use Rattle.rt_nodes.specs.Messages.{node_took, took}
use Rattle.rt_nodes.specs.Requests.{NodeAsks}
use Rattle.rt_nodes.specs.declared.server_node.ServerNode.{ServerNode}
use Rattle.rt_safety.proofs.JobsOn.{own_slot}
use Rattle.rt_server.proofs.Kept.{replica_found}
use Rattle.rt_server.proofs.LastingAsks.{answered_ok, no_answer}
use Rattle.rt_server.proofs.LastingTold.{asks_right}
use Rattle.rt_server.specs.Calls.{ThroughAt, replied_at}
use Rattle.rt_server.specs.Table.{Segment, Segments, entry_of, is_segment, put_back, replica_at, replica_of}
use Rattle.rt_state.proofs.Bounds.{few_sent}
use Rattle.rt_state.proofs.Dues.{server_there}
use Rattle.rt_state.proofs.Possible.{then_passed}
use Rattle.rt_state.specs.Applying.{Next}
use Rattle.rt_state.specs.Finding.{find_server, is_server_up, is_up, replica_at as replica_there, request_at, request_in}
use Rattle.rt_state.specs.IsSafe.{past_of}
use Rattle.rt_state.specs.IsSafeWorld.{IsSafeWorld}
use Rattle.rt_state.specs.Requests.{SendsAt, report_by}
use Rattle.rt_state.specs.declared.state.State.{State}
use Rattle.rt_world.specs.Step.{Steps}

-- ---- an entry that is put back

abbrev some_entry : Entry → Option Entry
some_entry e = Some e

found_put : (f : Segment → Bool) (es : List (Segment × Entry)) (old new : Entry) → lookup f es ≡ Some old → lookup f (set_value f es new) ≡ Some new
found_put f [] old new found = absurd (none-some old found)
found_put f (e ∷ es) old new found = by_test (f e.0) refl found (found_put f es old new)
  where
    by_test : (b : Bool) → f e.0 ≡ b → cond b (some_entry e.1) (lookup f es) ≡ Some old → (lookup f es ≡ Some old → lookup f (set_value f es new) ≡ Some new)
        → lookup f (cond b ((e.0, new) ∷ es) (e ∷ set_value f es new)) ≡ Some new
    by_test true is at further = ap (λ c. cond c (some_entry new) (lookup f es)) is
    by_test false is at further = ap (λ c. cond c (some_entry e.1) (lookup f (set_value f es new))) is ∙ further at

pub replica_put : (t : Segments) (p : Partition) (q : Sequence) (r next : Consumer) → replica_of t p q ≡ Some r
    → replica_of (put_back t p q (Replica next)) p q ≡ Some next
replica_put t p q r next found =
    ap replica_at (found_put (is_segment p q) t.entries (Replica r) (Replica next) (replica_found (entry_of t p q) r found))

-- ---- a request

-- the replica of a segment waits for the answer to the request of this number
pub record IsWaiting (n : ServerNode) (p : Partition) (q : Sequence) (number : RequestNumber) : Type 0 where
  pub replica : Consumer
  pub there : replica_of n.server.table p q ≡ Some replica
  pub waits : replica.waited ≡ Some (Step number)

waits_behind : (old new : ServerNode) (p : Partition) (q : Sequence) (request : Request) → NodeAsks p q old new request → IsWaiting new p q request.number
waits_behind old new p q request (asks, setup, up) = by_replica (replica_of old.server.table p q) refl asks
  where
    number : RequestNumber
    number = number_at old.server.numbers old.server.numbers.made

    by_replica : (o : Option Consumer) → replica_of old.server.table p q ≡ o
        → ThroughAt o (new.server.numbers ≡ old.server.numbers) (λ r next answer. Requests r next old.server.numbers new.server.numbers answer) old.server.table
        new.server.table p q (Ok request)
        → IsWaiting new p q request.number
    by_replica None found h = absurd (no_answer NotDue request h.1)
    by_replica (Some r) found h =
        let c : Requests r h.0 old.server.numbers new.server.numbers (Ok request) =
        subst (Requests r h.0 old.server.numbers new.server.numbers) (answered_ok h.1 request h.3) h.2 in
        let own : request.number ≡ number_at old.server.numbers old.server.numbers.made = ap (λ (x : Request). x.number) c.1 in
        record {
          replica = h.0;
          there = ap (λ (t : Segments). replica_of t p q) h.4 ∙ replica_put old.server.table p q r h.0 found;
          waits =
              ap (λ (x : Consumer). x.waited) c.2
              ∙ ap (λ (x : RequestNumber). waited_for x) (sym own);
        }
      where
        waited_for : RequestNumber → Option Waited
        waited_for x = Some (Step x)

-- what a `report` sends: the next message, a request of its segment, for whose answer the replica waits at its server, which is up
pub record IsRequested (w v : State) (i : Instance) (p : Partition) (q : Sequence) (o : Outcome) : Type 0 where
  pub request : Request
  pub told : o ≡ came.Sent (length w.sent) request
  pub there : request_at v (length w.sent) ≡ Some request
  pub segment : (request.partition ≡ p) × (request.sequence ≡ q)
  pub instance : request.number.instance.0 ≡ i.0
  pub node : ServerNode
  pub stands : slice_get v.servers i.0 ≡ Some node
  pub up : node.up ≡ true
  pub waits : IsWaiting node p q request.number
  pub controllers : v.controllers ≡ w.controllers

pub requested : (w v : State) (i : Instance) (p : Partition) (q : Sequence) (o : Outcome) → IsSafeWorld w → Steps w (event.Report i p q) v (Ok o) → IsRequested w v i p q o
requested w v i p q o safe (cost, due, h) = by_server (slice_get w.servers i.0) refl h
  where
    is_up_there : is_server_up w i ≡ true
    is_up_there = (server_there w i p (then_passed (find_server w i p) (report_by w (replica_there w i p q)) cost due).0).up

    by_server : (n : Option ServerNode) → slice_get w.servers i.0 ≡ n → SendsAt n w i (NodeAsks p q) cost (v, o) → IsRequested w v i p q o
    by_server None found h = absurd h
    by_server (Some old) found (new, request, does, is) =
        let same : v.sent ≡ w.sent ++ sent.Request request ∷ [] = ap (λ (x : Next). x.0.sent) is in
        let right = asks_right w.setup (past_of w) old.server new.server p q request safe.safe.past (safe.safe.servers i.0 old found).over
        (safe.safe.drawn i.0 old found) (few_sent w safe) does.1 does.0 in
        record {
          request = request;
          told = ap (λ (x : Next). x.1) is;
          there = ap (λ l. request_in (slice_get l (length w.sent))) same ∙ ap request_in (slice_get-push w.sent (sent.Request request));
          segment = right.asked.segment;
          instance = ap (λ (x : RequestNumber). x.instance.0) right.asked.number ∙ (safe.safe.servers i.0 old found).placed;
          node = new;
          stands = ap (λ (x : Next). slice_get x.0.servers i.0) is ∙ own_slot w.servers i.0 old new found;
          up = does.2 ∙ ap is_up (sym found) ∙ is_up_there;
          waits = waits_behind old new p q request does;
          controllers = ap (λ (x : Next). x.0.controllers) is;
        }

-- ---- its answer

number_is : (n : RequestNumber) → same_number n n ≡ true
number_is n =
    ap (λ b. b && (n.incarnation == n.incarnation) && (n.count == n.count)) (eq-eqb n.instance.0 n.instance.0 refl)
    ∙ ap (λ b. b && (n.count == n.count)) (eq-eqb n.incarnation n.incarnation refl)
    ∙ eq-eqb n.count n.count refl

-- where a replica then stands that takes the answer
pub takes_it : (n : ServerNode) (reply : Reply) (waits : IsWaiting n reply.partition reply.sequence reply.number)
    → state_in (node_took n reply).0 ≡ Some (state_of (replied waits.replica reply).phase)
takes_it n reply waits =
    let t = n.server.table in
    let p = reply.partition in
    let q = reply.sequence in
    let next = replied waits.replica reply in
    let is : is_answer waits.replica.waited reply ≡ true = ap (λ (x : Option Waited). is_answer x reply) waits.waits ∙ number_is reply.number in
    ap (λ (o : Option Consumer). state_in (took (replied_at o t reply).0 reply (replica_of (replied_at o t reply).1 p q))) waits.there
    ∙ ap (λ (b : Bool). state_in (took b reply (replica_of (put_back t p q (Replica next)) p q))) is
    ∙ ap (λ (o : Option Consumer). state_in (took true reply o)) (replica_put t p q waits.replica next waits.there)
