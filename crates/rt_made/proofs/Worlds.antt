-- In no world of a run has a replica more than a million rows.
use Rattle.std.proofs.Common.{◌≡◌, ℕ, zero, suc, Bool, true, false, cond, length, Option, Some, None, Ok, refl, sym, subst, ap, ◌∙◌, arith, slice_get}
use Rattle.std.specs.Prelude.{slice_set}
use Rattle.rt_base.specs.declared.numbers.ControllerId.{ControllerId}
use Rattle.rt_base.specs.declared.numbers.Instance.{Instance}
use Rattle.rt_base.specs.declared.numbers.Partition.{Partition}
use Rattle.rt_base.specs.declared.numbers.Sequence.{Sequence}
use Rattle.rt_broker.specs.Asking.{Asking, piece_at}
use Rattle.rt_controller.specs.declared.handled.Handled.{Handled}
use Rattle.rt_controller.specs.declared.handled.Handled.TheVariants as handled
use Rattle.rt_deep.specs.Meaning.{Told as ToldDeep}
use Rattle.rt_deep.specs.Memory.{means as deep_means}
use Rattle.rt_events.specs.declared.event.Event.{Event}
use Rattle.rt_events.specs.declared.event.Event.TheVariants as event
use Rattle.rt_events.specs.declared.outcome.Outcome.{Outcome}
use Rattle.rt_model.specs.declared.job_step.JobStep.{JobStep}
use Rattle.rt_model.specs.declared.piece.Piece.{Piece}
use Rattle.rt_model.specs.declared.reply.Reply.{Reply}
use Rattle.rt_model.specs.declared.request.Request.{Request}
use Rattle.rt_model.specs.declared.setup.Setup.{Setup}
use Rattle.rt_nodes.specs.declared.chore.Chore.{Chore}
use Rattle.rt_nodes.specs.declared.controller_node.ControllerNode.{ControllerNode}
use Rattle.rt_nodes.specs.declared.server_node.ServerNode.{ServerNode}
use Rattle.rt_nodes.specs.declared.upkeep.Upkeep.{Upkeep}
use Rattle.rt_safety.proofs.Ways.{leaving, Leaving}
use Rattle.rt_server.proofs.EachEntry.{add_each}
use Rattle.rt_server.specs.Fresh.{first_replica, first_segments, first_sequence, is_assigned, with_first}
use Rattle.rt_server.specs.Kept.{IsServer}
use Rattle.rt_entry.specs.declared.entry.Entry.TheVariants.{Replica}
use Rattle.rt_state.specs.Applying.{Next}
use Rattle.rt_state.specs.Finding.{query_at, reply_at, request_at}
use Rattle.rt_state.specs.IsSafeWorld.{IsSafeWorld}
use Rattle.rt_state.specs.Jobs.{JobSteps, JobStepsAt, noted_set, stepped_by}
use Rattle.rt_state.specs.Messages.{Delivers, DeliversAt, Replies, RepliesAt, after_step, handed, node_took}
use Rattle.rt_state.specs.Nodes.{ControllerDoes, ControllerDoesAt, ServerCalls, ServerCallsAt, ServerDoes, ServerDoesAt, ServerFetches, ServerFetchesAt, ServerGets, ServerGetsAt, ServerStep}
use Rattle.rt_state.specs.Places.{AreAt}
use Rattle.rt_state.specs.Queries.{Answers, AnswersAt, Pieces, PiecesAt, PiecesOf, Routes, RoutesAt}
use Rattle.rt_state.specs.Repairs.{Keeps as KeepsChore, KeepsAt, upkeep_at}
use Rattle.rt_state.specs.Requests.{AskStep, SendsAt, SendsRequest}
use Rattle.rt_state.specs.Start.{fresh_server, fresh_servers, start}
use Rattle.rt_state.specs.declared.cost.Cost.{Cost}
use Rattle.rt_state.specs.declared.state.State.{State}
use Rattle.rt_store.specs.Meaning.{Told}
use Rattle.rt_store.specs.Memory.{means}
use Rattle.rt_stream.specs.Feed.{log_meaning}
use Rattle.rt_stream.specs.Log.{Log}
use Rattle.rt_world.proofs.Places.{at_none, at_push, at_set}
use Rattle.rt_world.specs.Step.{Steps, way_of}
use Rattle.rt_world.specs.Way.{Goes, Way}
use Rattle.rt_world.specs.Way as way
use Rattle.rt_made.proofs.Servers.{AreFew, IsFewEntry, asks_few, asks_for_few, downloads_few, forces_few_in, replied_in_few, restarts_few, seals_few, sees_few, stops_few_in, takes_few, transits_few}

abbrev pub HasFewRows : ℕ → ServerNode → Type 0
HasFewRows i n = AreFew n.server.table

abbrev pub HaveFewRows : State → Type 0
HaveFewRows w = AreAt HasFewRows w.servers

-- ---- the first world

first_few : (setup : Setup) (i : Instance) (p : ℕ) → AreFew (first_segments setup i p)
first_few setup i zero = λ x has. absurd has
first_few setup i (suc p) = by (is_assigned setup (record { 0 = p }) i) (first_few setup i p)
  where
    by : (b : Bool) → AreFew (first_segments setup i p) → AreFew (cond b (with_first setup (record { 0 = p }) (first_segments setup i p)) (first_segments setup i p))
    by true h = add_each IsFewEntry (first_segments setup i p).entries (record { 0 = p }) first_sequence (Replica (first_replica setup (record { 0 = p }))) h (omega arith)
    by false h = h

fresh_few : (setup : Setup) (n : ℕ) → AreAt HasFewRows (fresh_servers setup n)
fresh_few setup zero = at_none HasFewRows
fresh_few setup (suc n) = at_push HasFewRows (fresh_servers setup n) (fresh_server setup n) (first_few setup (record { 0 = n }) setup.partitions) (fresh_few setup n)

pub start_few : (setup : Setup) → HaveFewRows (start setup)
start_few setup = fresh_few setup setup.servers

-- ---- what a way keeps

-- a server's step keeps it so
abbrev KeepsFew : (ServerNode → ServerNode → Type 0) → Type 0
KeepsFew step = (old new : ServerNode) → IsServer old.server.setup old.server.table → AreFew old.server.table → step old new → AreFew new.server.table

abbrev Keeps : State → Way → Type 0
Keeps w (way.alone i does) = (o : Outcome) → KeepsFew (λ old new. does old new o)
Keeps w (way.looks i does) = (log : Log) (o : Outcome) → KeepsFew (λ old new. does w.log log old new o)
Keeps w (way.calls i does) = (store : Told) (o : Outcome) → KeepsFew (λ old new. does w.store store old new o)
Keeps w (way.gets i does) = (deep : ToldDeep) (o : Outcome) → KeepsFew (λ old new. does w.deep deep old new o)
Keeps w (way.sends i asks) = (request : Request) → KeepsFew (λ old new. asks old new request)
Keeps w other = Unit {0}

keeps : (w : State) (e : Event) → Keeps w (way_of w e)
keeps w (event.Consume i p q max) =
    λ log o old new is few step.
    takes_few old.server.setup old.server.table new.server.table p q is few (log_meaning w.log) (log_meaning log) max w.moment (Ok tt) step.0
keeps w (event.Force i p q) = λ o old new is few step. forces_few_in old.server.setup old.server.table new.server.table p q is few (Ok tt) step.0
keeps w (event.Stop i p q) = λ o old new is few step. stops_few_in old.server.setup old.server.table new.server.table p q is few (Ok tt) step.0
keeps w (event.Build i p q) = λ o old new is few step. seals_few old.server.setup old.server.table new.server.table p q is few (Ok tt) step.0
keeps w (event.Report i p q) =
    λ request old new is few step.
    asks_few old.server.setup old.server.table new.server.table p q is few old.server.numbers new.server.numbers (Ok request) step.0
keeps w (event.Extend i p q millis) =
    λ request old new is few step.
    asks_for_few old.server.setup old.server.table new.server.table p q is few old.server.numbers new.server.numbers millis (Ok request) step.0
keeps w (event.CrashServer i) = λ o old new is few step. subst (λ (n : ServerNode). AreFew n.server.table) (sym step.0) (λ x has. absurd has)
keeps w (event.RestartServer i) = λ store o old new is few step. restarts_few (means w.store) (means store) old.server new.server few step.0 step.1
keeps w (event.See i) = λ store o old new is few step. sees_few (means w.store) (means store) old.server new.server few step.0 step.1
keeps w (event.Transit i p q) =
    λ store o old new is few step. transits_few (means w.store) (means store) old.server new.server few p q w.moment step.0 step.1
keeps w (event.Download i p q) =
    λ deep o old new is few step.
    downloads_few (deep_means w.deep) (deep_means deep) old.server.setup.schema old.server.table new.server.table p q step.0 few step.1
keeps w e = tt

-- ---- where a way leads

module _ (w : State) (s : IsSafeWorld w) (few : HaveFewRows w) where
  stays : (v : State) → v.servers ≡ w.servers → HaveFewRows v
  stays v e = subst (AreAt HasFewRows) (sym e) few

  stays_next : (x y : Next) → x ≡ y → y.0.servers ≡ w.servers → HaveFewRows x.0
  stays_next x y is e = stays x.0 (ap (λ (z : Next). z.0.servers) is ∙ e)

  -- a server that stands there steps
  stepped : (i : Instance) (old new : ServerNode) (step : ServerNode → ServerNode → Type 0) (v : State) → slice_get w.servers i.0 ≡ Some old → KeepsFew step → step old new
      → v.servers ≡ slice_set w.servers i.0 new → HaveFewRows v
  stepped i old new step v at k h e =
      subst (AreAt HasFewRows) (sym e) (at_set HasFewRows w.servers i.0 new (k old new (s.safe.servers i.0 old at).over.kept (few i.0 old at) h) few)

  does_few : (i : Instance) (does : ServerStep) (cost : Cost) (x : Next) → ((o : Outcome) → KeepsFew (λ old new. does old new o)) → ServerDoes w i does cost x → HaveFewRows x.0
  does_few i does cost x k h = by (slice_get w.servers i.0) refl h
    where
      by : (o : Option ServerNode) → slice_get w.servers i.0 ≡ o → ServerDoesAt o w i does cost x → HaveFewRows x.0
      by None at h = absurd h
      by (Some old) at (new, step, is) = stepped i old new (λ a b. does a b x.1) x.0 at (k x.1) step (ap (λ (z : State). z.servers) is)

  looks_few : (i : Instance) (does : Log → Log → ServerStep) (cost : Cost) (x : Next) → Keeps w (way.looks i does) → ServerFetches w i does cost x → HaveFewRows x.0
  looks_few i does cost x k h = by (slice_get w.servers i.0) refl h
    where
      by : (o : Option ServerNode) → slice_get w.servers i.0 ≡ o → ServerFetchesAt o w i does cost x → HaveFewRows x.0
      by None at h = absurd h
      by (Some old) at (new, log, step, is) = stepped i old new (λ a b. does w.log log a b x.1) x.0 at (k log x.1) step (ap (λ (z : State). z.servers) is)

  calls_few : (i : Instance) (does : Told → Told → ServerStep) (cost : Cost) (x : Next) → Keeps w (way.calls i does) → ServerCalls w i does cost x → HaveFewRows x.0
  calls_few i does cost x k h = by (slice_get w.servers i.0) refl h
    where
      by : (o : Option ServerNode) → slice_get w.servers i.0 ≡ o → ServerCallsAt o w i does cost x → HaveFewRows x.0
      by None at h = absurd h
      by (Some old) at (new, store, step, is) = stepped i old new (λ a b. does w.store store a b x.1) x.0 at (k store x.1) step (ap (λ (z : State). z.servers) is)

  gets_few : (i : Instance) (does : ToldDeep → ToldDeep → ServerStep) (cost : Cost) (x : Next) → Keeps w (way.gets i does) → ServerGets w i does cost x → HaveFewRows x.0
  gets_few i does cost x k h = by (slice_get w.servers i.0) refl h
    where
      by : (o : Option ServerNode) → slice_get w.servers i.0 ≡ o → ServerGetsAt o w i does cost x → HaveFewRows x.0
      by None at h = absurd h
      by (Some old) at (new, deep, step, is) = stepped i old new (λ a b. does w.deep deep a b x.1) x.0 at (k deep x.1) step (ap (λ (z : State). z.servers) is)

  sends_few : (i : Instance) (asks : AskStep) (cost : Cost) (x : Next) → Keeps w (way.sends i asks) → SendsRequest w i asks cost x → HaveFewRows x.0
  sends_few i asks cost x k h = by (slice_get w.servers i.0) refl h
    where
      by : (o : Option ServerNode) → slice_get w.servers i.0 ≡ o → SendsAt o w i asks cost x → HaveFewRows x.0
      by None at h = absurd h
      by (Some old) at (new, request, step, is) = stepped i old new (λ a b. asks a b request) x.0 at (k request) step (ap (λ (z : Next). z.0.servers) is)

  taken_few : (m : ℕ) (cost : Cost) (x : Next) → Replies w m cost x → HaveFewRows x.0
  taken_few m cost x h = by (reply_at w m) h
    where
      took : (r : Reply) (o : Outcome) → KeepsFew (λ old new. (o, new) ≡ node_took old r)
      took r o old new is few step =
          subst (λ (n : ServerNode). AreFew n.server.table) (sym (ap (λ (z : Outcome × ServerNode). z.1) step)) (replied_in_few old.server.table r few)

      by : (o : Option Reply) → RepliesAt o w cost x → HaveFewRows x.0
      by None h = absurd h
      by (Some r) h = does_few r.number.instance (λ old new outcome. (outcome, new) ≡ node_took old r) cost x (took r) h

  turns_few : (c : ControllerId) (does : ControllerNode → ControllerNode) (outcome : Outcome) (cost : Cost) (x : Next) → ControllerDoes w c does outcome cost x → HaveFewRows x.0
  turns_few c does outcome cost x h = by (slice_get w.controllers c.0) h
    where
      by : (o : Option ControllerNode) → ControllerDoesAt o w c does outcome cost x → HaveFewRows x.0
      by None h = absurd h
      by (Some old) is = stays_next x _ is refl

  handles_few : (m : ℕ) (c : ControllerId) (cost : Cost) (x : Next) → Delivers w m c cost x → HaveFewRows x.0
  handles_few m c cost x h = by (request_at w m) (slice_get w.controllers c.0) h
    where
      on : (v : State) (what : Handled) → v.servers ≡ w.servers → (handed v cost what).0.servers ≡ w.servers
      on v (handled.Reply r) e = e
      on v (handled.Job j) e = e

      by : (o : Option Request) (p : Option ControllerNode) → DeliversAt o p w c cost x → HaveFewRows x.0
      by None p h = absurd h
      by (Some q) None h = absurd h
      by (Some q) (Some node) (new, what, store, deep, handles, is) = stays_next x _ is (on (after_step w c node new store deep) what refl)

  works_few : (c : ControllerId) (j : ℕ) (cost : Cost) (x : Next) → JobSteps w c j cost x → HaveFewRows x.0
  works_few c j cost x h = by (slice_get w.controllers c.0) h
    where
      on : (v : State) (step : JobStep) (o : Option Reply) → v.servers ≡ w.servers → (stepped_by v cost step o).0.servers ≡ w.servers
      on v step None e = e
      on v step (Some r) e = e

      by : (o : Option ControllerNode) → JobStepsAt o w c j cost x → HaveFewRows x.0
      by None h = absurd h
      by (Some node) (new, step, store, deep, works, is) =
          stays_next x _ is (on (noted_set (after_step w c node new store deep) cost (length w.store.writes)) step step.reply refl)

  chores_few : (c : ControllerId) (p : Partition) (chore : Chore) (cost : Cost) (x : Next) → KeepsChore w c p chore cost x → HaveFewRows x.0
  chores_few c p chore cost x h = by (slice_get w.controllers c.0) (upkeep_at w c p) h
    where
      by : (o : Option ControllerNode) (u : Option Upkeep) → KeepsAt o u w c p chore cost x → HaveFewRows x.0
      by None u h = absurd h
      by (Some node) None h = absurd h
      by (Some node) (Some u) (new, store, step, is) = stays x.0 (ap (λ (z : State). z.servers) is)

  routes_few : (q : ℕ) (p : Partition) (cost : Cost) (x : Next) → Routes w q p cost x → HaveFewRows x.0
  routes_few q p cost x h = by (query_at w q) h
    where
      by : (o : Option Asking) → RoutesAt o w q p cost x → HaveFewRows x.0
      by None h = absurd h
      by (Some a) (new, store, answer, routes, routed, is) = stays x.0 (ap (λ (z : State). z.servers) is)

  serves_few : (q : ℕ) (p : Partition) (t : Sequence) (i : Instance) (cost : Cost) (x : Next) → Pieces w q p t i cost x → HaveFewRows x.0
  serves_few q p t i cost x h = by (query_at w q) h
    where
      of : (a : Asking) (piece : Option Piece) (held : Option ServerNode) → PiecesOf piece held a w q i cost x → HaveFewRows x.0
      of a None held h = absurd h
      of a (Some piece) None h = absurd h
      of a (Some piece) (Some node) (new, what, gives, notes, is) = stays_next x _ is refl

      by : (o : Option Asking) → PiecesAt o w q p t i cost x → HaveFewRows x.0
      by None h = absurd h
      by (Some a) h = of a (piece_at a p t) (slice_get w.servers i.0) h

  closes_few : (q : ℕ) (cost : Cost) (x : Next) → Answers w q cost x → HaveFewRows x.0
  closes_few q cost x h = by (query_at w q) h
    where
      by : (o : Option Asking) → AnswersAt o w q cost x → HaveFewRows x.0
      by None h = absurd h
      by (Some a) (answer, of, is) = stays_next x _ is refl

  goes_few : (y : Way) (cost : Cost) (x : Next) → Keeps w y → Leaving w cost y → Goes w y cost x → HaveFewRows x.0
  goes_few (way.alone i does) cost x k left h = does_few i does cost x k h
  goes_few (way.looks i does) cost x k left h = looks_few i does cost x k h
  goes_few (way.calls i does) cost x k left h = calls_few i does cost x k h
  goes_few (way.gets i does) cost x k left h = gets_few i does cost x k h
  goes_few (way.sends i asks) cost x k left h = sends_few i asks cost x k h
  goes_few (way.takes m) cost x k left h = taken_few m cost x h
  goes_few (way.turns c does outcome) cost x k left h = turns_few c does outcome cost x h
  goes_few (way.handles m c) cost x k left h = handles_few m c cost x h
  goes_few (way.works c j) cost x k left h = works_few c j cost x h
  goes_few (way.keeps c p chore) cost x k left h = chores_few c p chore cost x h
  goes_few (way.routes q p) cost x k left h = routes_few q p cost x h
  goes_few (way.serves q p t i) cost x k left h = serves_few q p t i cost x h
  goes_few (way.closes q) cost x k left h = closes_few q cost x h
  goes_few (way.outside next) cost x k left h = stays_next x (next cost) h left.servers

  pub steps_few : (e : Event) (v : State) (o : Outcome) → Steps w e v (Ok o) → HaveFewRows v
  steps_few e v o (cost, due, h) = goes_few (way_of w e) cost (v, o) (keeps w e) (leaving w e cost due) h
