-- What the way of an event leaves as it was, where the event is due in a safe world.
use Rattle.std.proofs.Common.{◌≡◌, ℕ, ◌+◌, ◌<◌, ◌≤◌, Bool, true, false, cond, List, Option, Some, None, Result, Ok, Err, inl, refl, sym, ◌∙◌, ap, subst, arith, length, slice_get}
use Rattle.std.proofs.lemmas.Bool.{ltb-true}
use Rattle.rt_base.specs.declared.numbers.ControllerId.{ControllerId}
use Rattle.rt_base.specs.declared.numbers.Instance.{Instance}
use Rattle.rt_base.specs.declared.numbers.Partition.{Partition}
use Rattle.rt_base.specs.declared.numbers.Sequence.{Sequence}
use Rattle.rt_consumer.specs.Consumer.{extends_in}
use Rattle.rt_consumer.specs.Requests.{Extends, kind_at, kind_in, Requests, size_at, size_in}
use Rattle.rt_consumer.specs.declared.consumer.Consumer.{Consumer}
use Rattle.rt_consumer.specs.declared.phase.Phase.{Phase}
use Rattle.rt_consumer.specs.declared.phase.Phase.TheVariants as phase
use Rattle.rt_consumer.specs.declared.stage.Stage.{Stage}
use Rattle.rt_consumer.specs.declared.stage.Stage.TheVariants.{InitialConsuming, CatchingUp, Holding, ConsumingToOnline, Retaining, Building, Starting, Uploading, Ending}
use Rattle.rt_entry.specs.Calls.{ReplicaCall}
use Rattle.rt_entry.specs.declared.refused.ServerRefused.{ServerRefused}
use Rattle.rt_entry.specs.declared.refused.ServerRefused.TheVariants.{NotDue}
use Rattle.rt_model.specs.declared.request.Request.{Request}
use Rattle.rt_model.specs.declared.request.RequestKind.{RequestKind}
use Rattle.rt_model.specs.declared.request.RequestKind.TheVariants as kind
use Rattle.rt_model.specs.declared.request.RequestNumber.{RequestNumber}
use Rattle.rt_safety.specs.Counted.{bytes_of}
use Rattle.rt_server.specs.Calls.{ThroughAt}
use Rattle.rt_server.specs.Table.{replica_of, Segments}
use Rattle.rt_state.specs.Finding.{replica_in}
use Rattle.rt_world.proofs.Costs.{due_priced}
use Rattle.std.proofs.lemmas.Option.{none-some, same_Some}
use Rattle.rt_deep.specs.Meaning.{Told as ToldDeep}
use Rattle.rt_events.specs.declared.event.Event.{Event}
use Rattle.rt_events.specs.declared.event.Event.TheVariants as event
use Rattle.rt_events.specs.declared.outcome.Outcome.{Outcome}
use Rattle.rt_events.specs.declared.refusal.Refusal.TheVariants.{NoSuchNode}
use Rattle.rt_model.specs.Lawful.{bump}
use Rattle.rt_nodes.proofs.Looks.{downloads_looks, sees_looks, takes_looks, transits_looks, unput, unwritten}
use Rattle.rt_nodes.specs.declared.controller_node.ControllerNode.{ControllerNode}
use Rattle.rt_nodes.specs.declared.server_node.ServerNode.{ServerNode}
use Rattle.rt_nodes.specs.declared.upkeep.Upkeep.{Upkeep}
use Rattle.rt_past.proofs.Growth.{grows_same}
use Rattle.rt_past.proofs.Ways.{past_logs}
use Rattle.rt_past.specs.Past.{Grows, Past}
use Rattle.rt_state.proofs.Possible.{only_passed, priced_room, then_passed}
use Rattle.rt_state.specs.Clock.{deep_faulted, store_faulted, ticked}
use Rattle.rt_state.specs.Finding.{has_partition}
use Rattle.rt_state.specs.IsSafe.{past_of}
use Rattle.rt_state.specs.IsSafeWorld.{IsSafeWorld}
use Rattle.rt_state.specs.Queries.{asked}
use Rattle.rt_nodes.specs.declared.chore.Chore.{Chore}
use Rattle.rt_nodes.specs.declared.chore.Chore.TheVariants.{Repair, Retire}
use Rattle.rt_state.specs.Repairs.{chore_by, chore_due, find_upkeep, upkeep_at}
use Rattle.rt_state.specs.Room.{message_cost, priced, spent}
use Rattle.rt_state.specs.Shows.{ideal_shown, meta_shown}
use Rattle.rt_state.specs.Stream.{produce_due, produced}
use Rattle.rt_state.specs.declared.cost.Cost.{Cost}
use Rattle.rt_state.specs.declared.counts.Counts.{Counts as Counted}
use Rattle.rt_state.specs.declared.state.State.{State}
use Rattle.rt_store.specs.Answers.{Leaves}
use Rattle.rt_store.specs.Meaning.{Told}
use Rattle.rt_stream.proofs.Growth.{log_message}
use Rattle.rt_stream.specs.Log.{Log, with_message}
use Rattle.rt_world.proofs.KeepsRepairs.{Begins, chore_begins, found_within}
use Rattle.rt_world.proofs.Stores.{wrote_told}
use Rattle.rt_world.specs.Step.{cost_of, due_at, size_of, way_of}
use Rattle.rt_world.specs.Way.{Way}
use Rattle.rt_world.specs.Way as way

-- ---- what a way leaves

-- the event is counted, with its uploads; what is set is counted where it is written
pub record Counts (w : State) (cost : Cost) (new : State) : Type 0 where
  pub events : new.counts.events ≡ w.counts.events + 1
  pub uploads : new.counts.uploads ≡ w.counts.uploads + cost.uploads
  pub stored : new.counts.stored ≡ w.counts.stored

pub counted_so : (w : State) (cost : Cost) (new : State) → new.counts ≡ spent w.counts cost → Counts w cost new
counted_so w cost new e =
    record { events = ap (λ (k : Counted). k.events) e; uploads = ap (λ (k : Counted). k.uploads) e; stored = ap (λ (k : Counted). k.stored) e }

-- no node took a step: the setup, the nodes, and what was written and sent are as they were, the clock never goes back, and in a safe
-- world all that there was is there still
pub record IsOutside (w : State) (cost : Cost) (new : State) : Type 0 where
  pub setup : new.setup ≡ w.setup
  pub controllers : new.controllers ≡ w.controllers
  pub servers : new.servers ≡ w.servers
  pub written : new.store.writes ≡ w.store.writes
  pub sent : new.sent ≡ w.sent
  pub counts : Counts w cost new
  pub moment : w.moment.0 ≤ new.moment.0
  pub past : IsSafeWorld w → Grows (past_of w) (past_of new)

-- a chore of the partition begins only where it may
abbrev pub BeginsRightly : Chore → State → ControllerId → Partition → Type 0
BeginsRightly chore w c p = (old : Upkeep) → upkeep_at w c p ≡ Some old → Begins chore w old

-- a look leaves what it looks at; a server writes its own incarnation at most; a controller alone leaves what is under way for
-- partitions, and one that works for a partition works for one that is there
abbrev pub Leaving : State → Cost → Way → Type 0
Leaving w cost (way.looks i does) = (old new : ServerNode) (log : Log) (o : Outcome) → does w.log log old new o → log ≡ w.log
Leaving w cost (way.gets i does) = (old new : ServerNode) (deep : ToldDeep) (o : Outcome) → does w.deep deep old new o → deep.files ≡ w.deep.files
Leaving w cost (way.calls i does) =
    (old new : ServerNode) (store : Told) (o : Outcome) → does w.store store old new o → (j : Instance) × Leaves (bump j) w.store.writes store.writes
Leaving w cost (way.turns c does told) = (n : ControllerNode) → (does n).upkeep ≡ n.upkeep
Leaving w cost (way.keeps c p chore) = (p.0 < w.setup.partitions) × BeginsRightly chore w c p
Leaving w cost (way.outside next) = IsOutside w cost (next cost).0
Leaving w cost (way.sends i asks) =
    (old new : ServerNode) (request : Request) → slice_get w.servers i.0 ≡ Some old → asks old new request → bytes_of request.kind ≡ cost.uploads
Leaving w cost other = Unit {0}

-- what uploads nothing costs no uploads
abbrev pub IsFree : Cost → Way → Type 0
IsFree cost (way.sends i asks) = Unit {0}
IsFree cost other = cost.uploads ≡ 0

-- ---- what no node does

produce_leaves : (w : State) (p : Partition) (message : List ℕ) (cost : Cost) → produce_due w p message ≡ Ok cost → IsOutside w cost (produced w p message cost).0
produce_leaves w p message cost due =
    let there = only_passed (has_partition w p) NoSuchNode (priced w (message_cost (length message))) cost due in
    record {
      setup = refl;
      controllers = refl;
      servers = refl;
      written = refl;
      sent = refl;
      counts = counted_so w cost _ refl;
      moment = omega arith;
      past =
          λ s.
          let log = with_message w.log p message in
          let within : p.0 < length w.log = omega (arith, ltb-true p.0 w.setup.partitions there.0, s.safe.past.partitions) in
          (past_logs w.setup (past_of w) log (log_message w.log p message within) s.safe.past).0;
    }

-- nothing that was produced, written, put or sent changes
quiet : (w : State) (cost : Cost) (new : State) → new.setup ≡ w.setup → new.controllers ≡ w.controllers → new.servers ≡ w.servers → past_of new ≡ past_of w
    → new.counts ≡ spent w.counts cost → w.moment.0 ≤ new.moment.0 → IsOutside w cost new
quiet w cost new setup controllers servers past counts moment =
    record {
      setup = setup;
      controllers = controllers;
      servers = servers;
      written = ap (λ (a : Past). a.history) past;
      sent = ap (λ (a : Past). a.sent) past;
      counts = counted_so w cost new counts;
      moment = moment;
      past = λ s. subst (Grows (past_of w)) (sym past) (grows_same (past_of w));
    }

-- ---- what a replica uploads

kind_bytes : (name : List ℕ) (number : RequestNumber) (s : Stage) (k : RequestKind) → kind_at name number s ≡ Some k → bytes_of k ≡ size_at s
kind_bytes name number (Holding reason) k e = ap bytes_of (sym (same_Some _ k e))
kind_bytes name number (Starting reason built) k e = ap bytes_of (sym (same_Some _ k e))
kind_bytes name number (Uploading reason built) k e = ap bytes_of (sym (same_Some _ k e))
kind_bytes name number (Ending reason built path) k e = ap bytes_of (sym (same_Some _ k e))
kind_bytes name number InitialConsuming k e = absurd (none-some k e)
kind_bytes name number (CatchingUp target reason) k e = absurd (none-some k e)
kind_bytes name number (ConsumingToOnline end done) k e = absurd (none-some k e)
kind_bytes name number (Retaining done) k e = absurd (none-some k e)
kind_bytes name number (Building reason) k e = absurd (none-some k e)

if_bytes : (b : Bool) (own k : RequestKind) → bytes_of own ≡ 0 → cond b (Some own) None ≡ Some k → bytes_of k ≡ 0
if_bytes true own k none e = ap bytes_of (sym (same_Some own k e)) ∙ none
if_bytes false own k none e = absurd (none-some k e)

phase_bytes : (name : List ℕ) (number : RequestNumber) (ph : Phase) (k : RequestKind) → kind_in name number ph ≡ Some k → bytes_of k ≡ size_in ph
phase_bytes name number (phase.Unsealed o) k e = kind_bytes name number o.stage k e
phase_bytes name number (phase.Discarded d) k e = if_bytes d.stopped kind.Stopped k refl e
phase_bytes name number (phase.Retained kept) k e = absurd (none-some k e)
phase_bytes name number (phase.Committed kept) k e = absurd (none-some k e)

abbrev answered : Request → Result Request ServerRefused
answered q = Ok q

same_request : (q r : Request) → answered q ≡ answered r → q ≡ r
same_request q r e = cc

not_answered : (e : ServerRefused) (q : Request) → answered q ≡ Err e → ⊥
not_answered e q h = cc

through_bytes : (size : Option Consumer → ℕ) (quiet : Type 0) (call : ReplicaCall Request) (old new : Segments) (p : Partition) (q : Sequence) (request : Request)
    → ((r next : Consumer) (k : Request) → call r next (Ok k) → bytes_of k.kind ≡ size (Some r))
    → (o : Option Consumer) → ThroughAt o quiet call old new p q (Ok request) → bytes_of request.kind ≡ size o
through_bytes size quiet call old new p q request bytes None h = absurd (not_answered NotDue request h.1)
through_bytes size quiet call old new p q request bytes (Some r) (next, Ok k, c, is, put) =
    ap (λ (x : Request). bytes_of x.kind) (same_request request k is) ∙ bytes r next k c
through_bytes size quiet call old new p q request bytes (Some r) (next, Err e, c, is, put) = absurd (not_answered _ request is)

-- ---- each event

pub cost_is : (w : State) (e : Event) (cost : Cost) → due_at w e ≡ Ok cost → cost_of w e ≡ cost
cost_is w e cost due = (priced_room w (cost_of w e) cost (due_priced w e cost due)).0

pub is_free : (w : State) (e : Event) (cost : Cost) → due_at w e ≡ Ok cost → IsFree cost (way_of w e)
is_free w (event.Report i p q) cost due = tt
is_free w (event.Extend i p q millis) cost due = tt
is_free w e cost due = ap (λ (c : Cost). c.uploads) (sym (cost_is w e cost due))

chore_leaves : (w : State) (c : ControllerId) (p : Partition) (chore : Chore) (cost : Cost) → chore_due w c p chore ≡ Ok cost
    → (p.0 < w.setup.partitions) × BeginsRightly chore w c p
chore_leaves w c p chore cost due =
    let found = then_passed (find_upkeep w c p) (chore_by chore w c (upkeep_at w c p)) cost due in
    (found_within w c p found.0, λ old at. chore_begins w c p chore old cost at found.1)

pub leaving : (w : State) (e : Event) (cost : Cost) → due_at w e ≡ Ok cost → Leaving w cost (way_of w e)
leaving w (event.Produce p message) cost due = produce_leaves w p message cost due
leaving w (event.Tick millis) cost due = quiet w cost (ticked w millis cost).0 refl refl refl refl refl (omega arith)
leaving w (event.Lead c on) cost due = λ n. refl
leaving w (event.Consume i p q max) cost due =
    λ old new log o step. takes_looks w.log log old.server.table new.server.table p q max w.moment (Ok tt) step.0
leaving w (event.Report i p q) cost due =
    λ old new request at asks.
    through_bytes size_of (new.server.numbers ≡ old.server.numbers) (λ r next answer. Requests r next old.server.numbers new.server.numbers answer) old.server.table
    new.server.table p q request (λ r next k c. phase_bytes r.name _ r.phase k.kind c.0) (replica_of old.server.table p q) asks.0
    ∙ ap (λ o. size_of (replica_in o p q)) (sym at) ∙ ap (λ (c : Cost). c.uploads) (cost_is w (event.Report i p q) cost due)
leaving w (event.Extend i p q millis) cost due =
    λ old new request at asks.
    through_bytes (λ o. 0) (new.server.numbers ≡ old.server.numbers) (λ r next answer. Extends r next old.server.numbers new.server.numbers millis answer) old.server.table
    new.server.table p q request (λ r next k c. if_bytes (extends_in r.phase) (kind.Extend millis) k.kind refl c.0) (replica_of old.server.table p q) asks.0
    ∙ ap (λ (c : Cost). c.uploads) (cost_is w (event.Extend i p q millis) cost due)
leaving w (event.CrashController c) cost due = λ n. refl
leaving w (event.RestartServer i) cost due =
    λ old new store o step.
    (old.server.numbers.instance, wrote_told (λ v. v.version) w.store store (bump old.server.numbers.instance) step.1.0 step.1.1)
leaving w (event.RestartController c) cost due = λ n. refl
leaving w (event.See i) cost due = λ old new store o step. (i, inl (unwritten w.store store (sees_looks w.store store old.server new.server step.0 step.1)))
leaving w (event.Transit i p q) cost due =
    λ old new store o step. (i, inl (unwritten w.store store (transits_looks w.store store old.server new.server p q w.moment step.0 step.1)))
leaving w (event.Download i p q) cost due =
    λ old new deep o step. unput w.deep deep (downloads_looks w.deep deep old.server.setup.schema old.server.table new.server.table p q step.0 step.1)
leaving w (event.Repair c p) cost due = chore_leaves w c p Repair cost due
leaving w (event.Retain c p) cost due = chore_leaves w c p Retire cost due
leaving w (event.FaultStore kept) cost due = quiet w cost (store_faulted w kept cost).0 refl refl refl refl refl (omega arith)
leaving w (event.FaultDeep kept) cost due = quiet w cost (deep_faulted w kept cost).0 refl refl refl refl refl (omega arith)
leaving w (event.Ask query) cost due = quiet w cost (asked w query cost).0 refl refl refl refl refl (omega arith)
leaving w (event.ShowMeta p q) cost due = quiet w cost (meta_shown w p q cost).0 refl refl refl refl refl (omega arith)
leaving w event.ShowIdeal cost due = quiet w cost (ideal_shown w cost).0 refl refl refl refl refl (omega arith)
leaving w e cost due = tt
