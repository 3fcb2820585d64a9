-- From where the replicas of a world come, event by event.
use Rattle.std.proofs.Common.{◌≡◌, ℕ, Option, Some, None, Ok, refl, sym, ◌∙◌, ap, subst, slice_get, length}
use Rattle.std.specs.Prelude.{slice_set}
use Rattle.rt_base.specs.declared.numbers.ControllerId.{ControllerId}
use Rattle.rt_base.specs.declared.numbers.Instance.{Instance}
use Rattle.rt_base.specs.declared.numbers.Partition.{Partition}
use Rattle.rt_base.specs.declared.numbers.Sequence.{Sequence}
use Rattle.rt_broker.specs.Asking.{Asking, piece_at}
use Rattle.rt_consumer.specs.Batch.{consumed}
use Rattle.rt_controller.specs.declared.handled.Handled.{Handled}
use Rattle.rt_controller.specs.declared.handled.Handled.TheVariants as handled
use Rattle.rt_deep.specs.Meaning.{Told as ToldDeep}
use Rattle.rt_deep.specs.Memory.{means as deep_means}
use Rattle.rt_events.specs.declared.event.Event.{Event}
use Rattle.rt_events.specs.declared.event.Event.TheVariants as event
use Rattle.rt_events.specs.declared.outcome.Outcome.{Outcome}
use Rattle.rt_model.specs.declared.job_step.JobStep.{JobStep}
use Rattle.rt_model.specs.declared.piece.Piece.{Piece}
use Rattle.rt_model.specs.declared.reply.Reply.{Reply}
use Rattle.rt_model.specs.declared.request.Request.{Request}
use Rattle.rt_nodes.proofs.Looks.{takes_looks}
use Rattle.rt_nodes.specs.declared.chore.Chore.{Chore}
use Rattle.rt_nodes.specs.declared.controller_node.ControllerNode.{ControllerNode}
use Rattle.rt_nodes.specs.declared.server_node.ServerNode.{ServerNode}
use Rattle.rt_nodes.specs.declared.upkeep.Upkeep.{Upkeep}
use Rattle.rt_safety.proofs.Ways.{leaving, Leaving}
use Rattle.rt_safety.specs.Runs.{happens, passes, Turn, TurnsTo}
use Rattle.rt_state.specs.Applying.{Next}
use Rattle.rt_state.specs.Finding.{query_at, reply_at, request_at}
use Rattle.rt_state.specs.Jobs.{JobSteps, JobStepsAt, noted_set, stepped_by}
use Rattle.rt_state.specs.Messages.{after_step, handed, Delivers, DeliversAt, node_took, Replies, RepliesAt}
use Rattle.rt_state.specs.Nodes.{ControllerDoes, ControllerDoesAt, ServerCalls, ServerCallsAt, ServerDoes, ServerDoesAt, ServerFetches, ServerFetchesAt, ServerGets, ServerGetsAt, ServerStep}
use Rattle.rt_state.specs.Places.{AreAt}
use Rattle.rt_state.specs.Queries.{Answers, AnswersAt, Pieces, PiecesAt, PiecesOf, Routes, RoutesAt}
use Rattle.rt_state.specs.Repairs.{Keeps, KeepsAt, upkeep_at}
use Rattle.rt_state.specs.Requests.{AskStep, SendsAt, SendsRequest}
use Rattle.rt_state.specs.declared.cost.Cost.{Cost}
use Rattle.rt_state.specs.declared.state.State.{State}
use Rattle.rt_store.specs.Meaning.{Told}
use Rattle.rt_store.specs.Memory.{means}
use Rattle.rt_stream.specs.Log.{Log}
use Rattle.rt_world.proofs.KeepsMessages.{reply_sent}
use Rattle.rt_world.proofs.Places.{at_set}
use Rattle.rt_world.specs.Step.{Steps, way_of}
use Rattle.rt_world.specs.Way.{Goes, Way}
use Rattle.rt_world.specs.Way as way
use Rattle.rt_heal.proofs.ReplicaSteps.{all_stay, AllCame, asks, builds, consumes, downloads_came, extends, forces, reply_came, restarts_came, sees_came, stops, through_came, transits_came}

-- the server of this number, and from where its replicas come
pub record CameServer (w : State) (i : ℕ) (new : ServerNode) : Type 0 where
  pub old : ServerNode
  pub there : slice_get w.servers i ≡ Some old
  pub came : AllCame w.sent w.log old.server.table new.server.table

module _ (w : State) where
  -- so it is of all servers
  abbrev pub ServersCame : State → Type 0
  ServersCame v = AreAt (CameServer w) v.servers

  untouched : AreAt (CameServer w) w.servers
  untouched i n at = record { old = n; there = at; came = all_stay w.sent w.log n.server.table }

  same_servers : (v : State) → v.servers ≡ w.servers → ServersCame v
  same_servers v e = subst (AreAt (CameServer w)) (sym e) untouched

  one_came : (i : Instance) (old new : ServerNode) (v : State) → slice_get w.servers i.0 ≡ Some old → v.servers ≡ slice_set w.servers i.0 new
      → AllCame w.sent w.log old.server.table new.server.table → ServersCame v
  one_came i old new v at put came =
      subst (AreAt (CameServer w)) (sym put) (at_set (CameServer w) w.servers i.0 new (record { old = old; there = at; came = came }) untouched)

  -- ---- a server's step

  abbrev Comes : (ServerNode → ServerNode → Type 0) → Type 0
  Comes step = (old new : ServerNode) → step old new → AllCame w.sent w.log old.server.table new.server.table

  module _ (i : Instance) (cost : Cost) (x : Next) where
    does_came : (does : ServerStep) → Comes (λ old new. does old new x.1) → ServerDoes w i does cost x → ServersCame x.0
    does_came does own h = by_node (slice_get w.servers i.0) refl h
      where
        by_node : (n : Option ServerNode) → slice_get w.servers i.0 ≡ n → ServerDoesAt n w i does cost x → ServersCame x.0
        by_node None at h = absurd h
        by_node (Some old) at (new, step, is) = one_came i old new x.0 at (ap (λ (z : State). z.servers) is) (own old new step)

    looks_came : (does : Log → Log → ServerStep) → ((log : Log) → Comes (λ old new. does w.log log old new x.1)) → ServerFetches w i does cost x → ServersCame x.0
    looks_came does own h = by_node (slice_get w.servers i.0) refl h
      where
        by_node : (n : Option ServerNode) → slice_get w.servers i.0 ≡ n → ServerFetchesAt n w i does cost x → ServersCame x.0
        by_node None at h = absurd h
        by_node (Some old) at (new, log, step, is) = one_came i old new x.0 at (ap (λ (z : State). z.servers) is) (own log old new step)

    calls_came : (does : Told → Told → ServerStep) → ((store : Told) → Comes (λ old new. does w.store store old new x.1)) → ServerCalls w i does cost x
        → ServersCame x.0
    calls_came does own h = by_node (slice_get w.servers i.0) refl h
      where
        by_node : (n : Option ServerNode) → slice_get w.servers i.0 ≡ n → ServerCallsAt n w i does cost x → ServersCame x.0
        by_node None at h = absurd h
        by_node (Some old) at (new, store, step, is) = one_came i old new x.0 at (ap (λ (z : State). z.servers) is) (own store old new step)

    gets_came : (does : ToldDeep → ToldDeep → ServerStep) → ((deep : ToldDeep) → Comes (λ old new. does w.deep deep old new x.1)) → ServerGets w i does cost x
        → ServersCame x.0
    gets_came does own h = by_node (slice_get w.servers i.0) refl h
      where
        by_node : (n : Option ServerNode) → slice_get w.servers i.0 ≡ n → ServerGetsAt n w i does cost x → ServersCame x.0
        by_node None at h = absurd h
        by_node (Some old) at (new, deep, step, is) = one_came i old new x.0 at (ap (λ (z : State). z.servers) is) (own deep old new step)

    sends_came : (does : AskStep) → ((request : Request) → Comes (λ old new. does old new request)) → SendsRequest w i does cost x → ServersCame x.0
    sends_came does own h = by_node (slice_get w.servers i.0) refl h
      where
        by_node : (n : Option ServerNode) → slice_get w.servers i.0 ≡ n → SendsAt n w i does cost x → ServersCame x.0
        by_node None at h = absurd h
        by_node (Some old) at (new, request, step, is) = one_came i old new x.0 at (ap (λ (z : Next). z.0.servers) is) (own request old new step)

  takes_came : (m : ℕ) (cost : Cost) (x : Next) → Replies w m cost x → ServersCame x.0
  takes_came m cost x h = by_found (reply_at w m) refl h
    where
      by_found : (o : Option Reply) → reply_at w m ≡ o → RepliesAt o w cost x → ServersCame x.0
      by_found None at h = absurd h
      by_found (Some y) at h =
          does_came y.number.instance cost x (λ old new outcome. (outcome, new) ≡ node_took old y)
          (λ old new step.
          subst (λ (n : ServerNode). AllCame w.sent w.log old.server.table n.server.table) (sym (ap (λ (z : Outcome × ServerNode). z.1) step))
          (reply_came w.sent w.log old.server.table y (reply_sent w m y at))) h

  -- ---- steps of others

  turns_came : (c : ControllerId) (does : ControllerNode → ControllerNode) (o : Outcome) (cost : Cost) (x : Next) → ControllerDoes w c does o cost x → ServersCame x.0
  turns_came c does o cost x h = by_node (slice_get w.controllers c.0) h
    where
      by_node : (n : Option ControllerNode) → ControllerDoesAt n w c does o cost x → ServersCame x.0
      by_node None h = absurd h
      by_node (Some n) is = same_servers x.0 (ap (λ (z : Next). z.0.servers) is)

  handles_came : (m : ℕ) (c : ControllerId) (cost : Cost) (x : Next) → Delivers w m c cost x → ServersCame x.0
  handles_came m c cost x h = by_found (request_at w m) (slice_get w.controllers c.0) h
    where
      by_answer : (z : State) (what : Handled) → z.servers ≡ w.servers → x ≡ handed z cost what → ServersCame x.0
      by_answer z (handled.Reply y) same is = same_servers x.0 (ap (λ (n : Next). n.0.servers) is ∙ same)
      by_answer z (handled.Job j) same is = same_servers x.0 (ap (λ (n : Next). n.0.servers) is ∙ same)

      by_found : (o : Option Request) (n : Option ControllerNode) → DeliversAt o n w c cost x → ServersCame x.0
      by_found None n h = absurd h
      by_found (Some r) None h = absurd h
      by_found (Some r) (Some n) (new, what, store, deep, handles, is) = by_answer (after_step w c n new store deep) what refl is

  works_came : (c : ControllerId) (j : ℕ) (cost : Cost) (x : Next) → JobSteps w c j cost x → ServersCame x.0
  works_came c j cost x h = by_node (slice_get w.controllers c.0) h
    where
      by_reply : (z : State) (step : JobStep) (o : Option Reply) → z.servers ≡ w.servers → x ≡ stepped_by z cost step o → ServersCame x.0
      by_reply z step None same is = same_servers x.0 (ap (λ (n : Next). n.0.servers) is ∙ same)
      by_reply z step (Some y) same is = same_servers x.0 (ap (λ (n : Next). n.0.servers) is ∙ same)

      by_node : (n : Option ControllerNode) → JobStepsAt n w c j cost x → ServersCame x.0
      by_node None h = absurd h
      by_node (Some n) (new, step, store, deep, works, is) =
          by_reply (noted_set (after_step w c n new store deep) cost (length w.store.writes)) step step.reply refl is

  chores_came : (c : ControllerId) (p : Partition) (chore : Chore) (cost : Cost) (x : Next) → Keeps w c p chore cost x → ServersCame x.0
  chores_came c p chore cost x h = by_found (slice_get w.controllers c.0) (upkeep_at w c p) h
    where
      by_found : (o : Option ControllerNode) (u : Option Upkeep) → KeepsAt o u w c p chore cost x → ServersCame x.0
      by_found None u h = absurd h
      by_found (Some n) None h = absurd h
      by_found (Some n) (Some u) (new, store, step, is) = same_servers x.0 (ap (λ (z : State). z.servers) is)

  routes_came : (q : ℕ) (p : Partition) (cost : Cost) (x : Next) → Routes w q p cost x → ServersCame x.0
  routes_came q p cost x h = by_query (query_at w q) h
    where
      by_query : (o : Option Asking) → RoutesAt o w q p cost x → ServersCame x.0
      by_query None h = absurd h
      by_query (Some a) (new, store, answer, routes, told, is) = same_servers x.0 (ap (λ (z : State). z.servers) is)

  serves_came : (q : ℕ) (p : Partition) (t : Sequence) (i : Instance) (cost : Cost) (x : Next) → Pieces w q p t i cost x → ServersCame x.0
  serves_came q p t i cost x h = by_query (query_at w q) h
    where
      by_piece : (a : Asking) (o : Option Piece) (n : Option ServerNode) → PiecesOf o n a w q i cost x → ServersCame x.0
      by_piece a None n h = absurd h
      by_piece a (Some piece) None h = absurd h
      by_piece a (Some piece) (Some n) (new, what, gives, notes, is) = same_servers x.0 (ap (λ (z : Next). z.0.servers) is)

      by_query : (o : Option Asking) → PiecesAt o w q p t i cost x → ServersCame x.0
      by_query None h = absurd h
      by_query (Some a) h = by_piece a (piece_at a p t) (slice_get w.servers i.0) h

  closes_came : (q : ℕ) (cost : Cost) (x : Next) → Answers w q cost x → ServersCame x.0
  closes_came q cost x h = by_query (query_at w q) h
    where
      by_query : (o : Option Asking) → AnswersAt o w q cost x → ServersCame x.0
      by_query None h = absurd h
      by_query (Some a) (answer, right, is) = same_servers x.0 (ap (λ (z : Next). z.0.servers) is)

  -- ---- steps in which no server does what is its own

  abbrev IsOfOthers : Way → Type 0
  IsOfOthers (way.alone i does) = ⊥
  IsOfOthers (way.looks i does) = ⊥
  IsOfOthers (way.calls i does) = ⊥
  IsOfOthers (way.gets i does) = ⊥
  IsOfOthers (way.sends i does) = ⊥
  IsOfOthers other = Unit {0}

  others_came : (y : Way) (cost : Cost) (x : Next) → IsOfOthers y → Leaving w cost y → Goes w y cost x → ServersCame x.0
  others_came (way.takes m) cost x of left h = takes_came m cost x h
  others_came (way.turns c does outcome) cost x of left h = turns_came c does outcome cost x h
  others_came (way.handles m c) cost x of left h = handles_came m c cost x h
  others_came (way.works c j) cost x of left h = works_came c j cost x h
  others_came (way.keeps c p chore) cost x of left h = chores_came c p chore cost x h
  others_came (way.routes q p) cost x of left h = routes_came q p cost x h
  others_came (way.serves q p t i) cost x of left h = serves_came q p t i cost x h
  others_came (way.closes q) cost x of left h = closes_came q cost x h
  others_came (way.outside next) cost x of left h = same_servers x.0 (ap (λ (z : Next). z.0.servers) h ∙ left.servers)
  others_came y cost x of left h = absurd of

  -- ---- an event

  event_came : (e : Event) (v : State) (o : Outcome) → Steps w e v (Ok o) → ServersCame v
  event_came (event.Consume i p q max) v o (cost, due, h) =
      looks_came i cost (v, o) _
      (λ log old new step.
      let same : log ≡ w.log = takes_looks w.log log old.server.table new.server.table p q max w.moment (Ok tt) step.0 in
      through_came w.sent w.log old.server.table (Unit {0}) tt _ _ new.server.table p q
      (λ r next does. consumes max w.moment (subst (λ (l : Log). consumed r max w.moment l ≡ Some next) same does.1)) step.0) h
  event_came (event.Force i p q) v o (cost, due, h) =
      does_came i cost (v, o) _ (λ old new step. through_came w.sent w.log old.server.table (Unit {0}) tt _ _ new.server.table p q (λ r next does. forces does) step.0) h
  event_came (event.Stop i p q) v o (cost, due, h) =
      does_came i cost (v, o) _ (λ old new step. through_came w.sent w.log old.server.table (Unit {0}) tt _ _ new.server.table p q (λ r next does. stops does) step.0) h
  event_came (event.Build i p q) v o (cost, due, h) =
      does_came i cost (v, o) _ (λ old new step. through_came w.sent w.log old.server.table (Unit {0}) tt _ _ new.server.table p q (λ r next does. builds does) step.0) h
  event_came (event.Report i p q) v o (cost, due, h) =
      sends_came i cost (v, o) _
      (λ request old new step.
      through_came w.sent w.log old.server.table Request request _ _ new.server.table p q
      (λ r next does. asks old.server.numbers new.server.numbers request does) step.0) h
  event_came (event.Extend i p q millis) v o (cost, due, h) =
      sends_came i cost (v, o) _
      (λ request old new step.
      through_came w.sent w.log old.server.table Request request _ _ new.server.table p q
      (λ r next does. extends old.server.numbers new.server.numbers millis request does) step.0) h
  event_came (event.CrashServer i) v o (cost, due, h) =
      does_came i cost (v, o) _
      (λ old new step. subst (λ (n : ServerNode). AllCame w.sent w.log old.server.table n.server.table) (sym step.0) (λ x has. absurd has)) h
  event_came (event.RestartServer i) v o (cost, due, h) =
      calls_came i cost (v, o) _ (λ store old new step. restarts_came w.sent w.log (means w.store) (means store) old.server new.server step.0 step.1) h
  event_came (event.See i) v o (cost, due, h) =
      calls_came i cost (v, o) _ (λ store old new step. sees_came w.sent w.log (means w.store) (means store) old.server new.server step.0 step.1) h
  event_came (event.Transit i p q) v o (cost, due, h) =
      calls_came i cost (v, o) _
      (λ store old new step. transits_came w.sent w.log (means w.store) (means store) old.server new.server p q w.moment step.0 step.1) h
  event_came (event.Download i p q) v o (cost, due, h) =
      gets_came i cost (v, o) _
      (λ deep old new step.
      downloads_came w.sent w.log (deep_means w.deep) (deep_means deep) old.server.setup.schema old.server.table new.server.table p q step.0 step.1) h
  event_came e v o (cost, due, h) = others_came (way_of w e) cost (v, o) tt (leaving w e cost due) h

  pub turn_came : (turn : Turn) (v : State) → TurnsTo w turn v → ServersCame v
  turn_came (happens e o) v (fits, steps) = event_came e v o steps
  turn_came passes v (cost, due, is) = same_servers v (ap (λ (z : State). z.servers) is)
