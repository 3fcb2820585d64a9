-- An event that is due in a safe world can happen: each way leads somewhere where its node's step can be made, and it can.
use Rattle.std.proofs.Common.{◌≡◌, true, length, Option, Some, None, Ok, Err, refl, sym, ◌∙◌, ap, subst, slice_get, is_some}
use Rattle.std.specs.Prelude.{slice_set}
use Rattle.rt_base.specs.declared.numbers.ControllerId.{ControllerId}
use Rattle.rt_base.specs.declared.numbers.Instance.{Instance}
use Rattle.rt_base.specs.declared.numbers.Partition.{Partition}
use Rattle.rt_broker.specs.Asking.{Asking, piece_at}
use Rattle.rt_broker.specs.Noting.{noted, Notes}
use Rattle.rt_broker.specs.declared.piece_got.PieceGot.{PieceGot}
use Rattle.rt_commit.specs.Told.{deep_after, store_after}
use Rattle.rt_controller.proofs.Realized.{made_request, made_work}
use Rattle.rt_controller.specs.Controller.{Controlling}
use Rattle.rt_controller.specs.Requests.{handle_call}
use Rattle.rt_controller.specs.Steps.{Handles, Works}
use Rattle.rt_controller.specs.Working.{work_call}
use Rattle.rt_controller.specs.declared.handled.Handled.{Handled}
use Rattle.rt_deep.specs.Meaning.{Told as ToldDeep}
use Rattle.rt_deep.specs.Memory.{means as deep_means}
use Rattle.rt_events.specs.declared.event.Event.{Event}
use Rattle.rt_events.specs.declared.event.Event.TheVariants as event
use Rattle.rt_events.specs.declared.outcome.Outcome.{Outcome}
use Rattle.rt_model.specs.declared.answer.Answer.{Answer}
use Rattle.rt_model.specs.declared.job_step.JobStep.{JobStep}
use Rattle.rt_model.specs.declared.piece.Piece.{Piece}
use Rattle.rt_model.specs.declared.reply.Reply.{Reply}
use Rattle.rt_model.specs.declared.request.Request.{Request}
use Rattle.rt_nodes.specs.Queries.{Gives, QueryRoutes}
use Rattle.rt_nodes.specs.declared.chore.Chore.{Chore}
use Rattle.rt_nodes.specs.declared.chore.Chore.TheVariants.{Repair, Retire}
use Rattle.rt_state.specs.Repairs.{chore_due}
use Rattle.rt_nodes.specs.declared.controller_node.ControllerNode.{ControllerNode}
use Rattle.rt_nodes.specs.declared.server_node.ServerNode.{ServerNode}
use Rattle.rt_nodes.specs.declared.upkeep.Upkeep.{Upkeep}
use Rattle.rt_state.proofs.Asking.{piece_noted, query_answered, query_routed, query_stands}
use Rattle.rt_state.proofs.Going.{server_asks, server_calls, server_does, server_fetches, server_gets}
use Rattle.rt_state.proofs.Leading.{controller_does, job_stepped, node_kept, request_handed}
use Rattle.rt_state.proofs.Taking.{reply_taken}
use Rattle.rt_state.specs.Applying.{Next}
use Rattle.rt_state.specs.Finding.{query_at, reply_at, request_at}
use Rattle.rt_state.specs.Queries.{IsAnswerOf}
use Rattle.rt_state.specs.declared.cost.Cost.{Cost}
use Rattle.rt_state.specs.declared.state.State.{State}
use Rattle.rt_store.specs.Meaning.{Told}
use Rattle.rt_store.specs.Memory.{means}
use Rattle.rt_stream.specs.Log.{Log}
use Rattle.rt_commit.specs.IsJob.{IsJob}
use Rattle.rt_events.specs.declared.outcome.Outcome.TheVariants as told
use Rattle.rt_lists.proofs.Lists.{All-found}
use Rattle.rt_nodes.specs.Lives.{node_crashed}
use Rattle.rt_nodes.specs.Messages.{node_took}
use Rattle.rt_nodes.specs.Queries.{piece_outcome}
use Rattle.rt_nodes.specs.Repairs.{begun, going_on, IsReadyFor, NodeKeepsAt, retiring, retiring_on, UpkeepSteps}
use Rattle.rt_repair.proofs.Realized.{retire_steps_told, steps_told}
use Rattle.rt_repair.specs.Told.{repair_at, retire_at}
use Rattle.rt_safety.proofs.ControllersCan.{repair_gives, request_gives, retire_gives, stands_at, work_gives}
use Rattle.rt_safety.proofs.QueriesCan.{answers_can, gives_can, routes_can}
use Rattle.rt_safety.proofs.Sealing.{seals_can}
use Rattle.rt_safety.proofs.ServersCan.{asks_can, asks_for_can, builds_can, consumes_can, forces_can, loads_can, moves_can, restarts_can, sees_can, stops_can}
use Rattle.rt_safety.specs.Possible.{IsTyped}
use Rattle.rt_state.proofs.NeedsNodes.{chore_needs, crash_server_needs, deliver_needs, job_needs, lead_needs, reply_needs, restart_controller_needs, restart_server_needs}
use Rattle.rt_state.proofs.NeedsQueries.{answer_needs, piece_needs, route_needs}
use Rattle.rt_state.proofs.NeedsServers.{build_needs, consume_needs, download_needs, extend_needs, force_needs, report_needs, see_needs, stop_needs, transit_needs}
use Rattle.rt_state.specs.Finding.{replica_in}
use Rattle.rt_state.specs.IsSafeWorld.{IsSafeWorld}
use Rattle.rt_state.specs.Jobs.{has_job_in}
use Rattle.rt_state.specs.Nodes.{with_server}
use Rattle.rt_state.specs.Queries.{GivesPiece}
use Rattle.rt_state.specs.Requests.{sends}
use Rattle.rt_state.specs.Room.{Due, dropped, spent, with_query_closed, with_set}
use Rattle.rt_world.proofs.KeepsQueries.{query_there}
use Rattle.rt_world.specs.Step.{due_at, due_of, Steps, way_of}
use Rattle.rt_world.specs.Way.{Goes, Way}
use Rattle.rt_world.specs.Way as way

-- ---- a way

abbrev ServerCan : State → Instance → (ServerNode → Type 0) → Type 0
ServerCan w i can = (n : ServerNode) × (slice_get w.servers i.0 ≡ Some n) × can n

abbrev ControllerCan : State → ControllerId → (ControllerNode → Type 0) → Type 0
ControllerCan w c can = (n : ControllerNode) × (slice_get w.controllers c.0 ≡ Some n) × can n

-- the node stands there, and can make its step
abbrev pub CanGo : State → Way → Type 0
CanGo w (way.alone i does) = ServerCan w i (λ n. (new : ServerNode) × (o : Outcome) × does n new o)
CanGo w (way.looks i does) = ServerCan w i (λ n. (new : ServerNode) × (log : Log) × (o : Outcome) × does w.log log n new o)
CanGo w (way.calls i does) = ServerCan w i (λ n. (new : ServerNode) × (store : Told) × (o : Outcome) × does w.store store n new o)
CanGo w (way.gets i does) = ServerCan w i (λ n. (new : ServerNode) × (deep : ToldDeep) × (o : Outcome) × does w.deep deep n new o)
CanGo w (way.sends i asks) = ServerCan w i (λ n. (new : ServerNode) × (request : Request) × asks n new request)
CanGo w (way.takes m) = (r : Reply) × (reply_at w m ≡ Some r) × ServerCan w r.number.instance (λ n. Unit {0})
CanGo w (way.turns c does told) = ControllerCan w c (λ n. Unit {0})
CanGo w (way.handles m c) =
    (q : Request) × (request_at w m ≡ Some q)
    × ControllerCan w c (λ n. (new : Controlling) × (what : Handled) × (store : Told) × (deep : ToldDeep)
    × Handles {E = Unit {0}} (means w.store) (means store) (deep_means w.deep) (deep_means deep) n.controller q w.moment new (Ok what))
CanGo w (way.works c j) =
    ControllerCan w c (λ n. (new : Controlling) × (step : JobStep) × (store : Told) × (deep : ToldDeep)
    × Works (means w.store) (means store) (deep_means w.deep) (deep_means deep) n.controller j w.moment new (Ok step))
CanGo w (way.keeps c p chore) =
    ControllerCan w c (λ n. (old : Upkeep) × (slice_get n.upkeep p.0 ≡ Some old)
    × (new : Upkeep) × (store : Told) × (o : Outcome) × UpkeepSteps chore w.setup p w.moment w.store store old new o)
CanGo w (way.routes q p) =
    (a : Asking) × (slice_get w.queries q ≡ Some (Some a)) × (new : Asking) × (store : Told) × (o : Outcome) × QueryRoutes p w.store store a new o
CanGo w (way.serves q p s i) =
    (a : Asking) × (slice_get w.queries q ≡ Some (Some a)) × (piece : Piece) × (piece_at a p s ≡ Some piece)
    × ServerCan w i (λ n. (new : Asking) × (what : PieceGot) × Gives n piece a.query what × Notes a piece i what new (Ok tt))
CanGo w (way.closes q) = (a : Asking) × (query_at w q ≡ Some a) × (answer : Answer) × IsAnswerOf a answer
CanGo w (way.outside next) = Unit {0}

can_go : (w : State) (y : Way) (cost : Cost) → CanGo w y → (x : Next) × Goes w y cost x
can_go w (way.alone i does) cost (n, at, (new, o, d)) = (_, server_does w i cost n new at does o d)
can_go w (way.looks i does) cost (n, at, (new, log, o, d)) = (_, server_fetches w i cost n new at does log o (spent w.counts cost) d refl)
can_go w (way.calls i does) cost (n, at, (new, store, o, d)) = (_, server_calls w i cost n new at does store o (spent w.counts cost) d refl)
can_go w (way.gets i does) cost (n, at, (new, deep, o, d)) = (_, server_gets w i cost n new at does deep o (spent w.counts cost) d refl)
can_go w (way.sends i asks) cost (n, at, (new, request, a)) =
    let x : Next = sends (with_server w i new) request in
    (_, server_asks w i cost n new at asks request x.0 x.1 (spent x.0.counts cost) a refl refl)
can_go w (way.takes m) cost (r, is, (n, at, u)) =
    let x = node_took n r in
    (_, reply_taken w m r cost _ is (server_does w r.number.instance cost n x.1 at (λ old new outcome. (outcome, new) ≡ node_took old r) x.0 refl))
can_go w (way.turns c does told) cost (n, at, u) = (_, controller_does w c cost n does told at)
can_go w (way.handles m c) cost (q, is, (n, at, (new, what, store, deep, h))) = (_, request_handed w m c q n new what store deep is at h cost)
can_go w (way.works c j) cost (n, at, (new, step, store, deep, h)) = (_, job_stepped w c j n new step store deep at h cost)
can_go w (way.keeps c p chore) cost (n, at, (old, stands, new, store, o, h)) =
    let node : ControllerNode = record n { upkeep = slice_set n.upkeep p.0 new } in (
      _,
      node_kept w c p chore cost n node store o (with_set w.counts cost (length w.store.writes) (length store.writes)) _ at
          (subst (λ u. NodeKeepsAt u chore w.setup p w.moment w.store store n node o) (sym stands) (new, h, refl)) refl refl,
    )
can_go w (way.routes q p) cost (a, at, new, store, o, h) = (_, query_routed w q p cost a new store o at h)
can_go w (way.serves q p s i) cost (a, at, piece, planned, (n, stands, (new, what, gives, notes))) =
    let g : GivesPiece w q p s i piece what = record { asked = a; node = n; there = query_stands w q a at; stands = stands; planned = planned; gives = gives } in
    (_, piece_noted w q p s i cost a new piece what at g notes (piece_outcome what) (spent w.counts cost) refl refl)
can_go w (way.closes q) cost (a, is, answer, h) =
    (_, query_answered w q cost a answer None (with_query_closed w.counts) (spent (with_query_closed w.counts) cost) is h refl refl refl)
can_go w (way.outside next) cost u = (next cost, refl)

-- ---- an event

some_there : {X : Type 0} (o : Option X) → is_some o ≡ true → (x : X) × (o ≡ Some x)
some_there None e = absurd (cc)
some_there (Some x) e = (x, refl)

-- what is under way for a partition can make its next step
upkeep_can : (w : State) (p : Partition) (chore : Chore) (u : Upkeep) → IsReadyFor chore w.setup w.store.writes p u
    → (new : Upkeep) × (store : Told) × (o : Outcome) × UpkeepSteps chore w.setup p w.moment w.store store u new o
upkeep_can w p Repair u ready =
    let r = begun w.setup p u.repair in
    let x = repair_gives w.store r w.moment r.stage ready.0 in (
      record u { repair = going_on x.0.repair },
      (repair_at w.store r w.moment r.stage).told,
      told.Repaired x.0.step,
      (x.0.step, (x.0.repair, steps_told w.store r w.moment x.0 r.stage x.1, refl), refl),
    )
upkeep_can w p Retire u ready =
    let r = retiring w.setup p u.retirement in
    let x = retire_gives w.store r w.moment r.stage ready.1.0 in (
      record u { retirement = retiring_on x.0.retire },
      (retire_at w.store r w.moment r.stage).told,
      told.Retired x.0.step,
      (x.0.step, (x.0.retire, retire_steps_told w.store r w.moment x.0 r.stage x.1, refl), refl),
    )

chore_can : (w : State) (c : ControllerId) (p : Partition) (chore : Chore) (cost : Cost) → IsSafeWorld w → chore_due w c p chore ≡ Ok cost → CanGo w (way.keeps c p chore)
chore_can w c p chore cost s due =
    let k = chore_needs w c p chore cost s due in
    let n = stands_at w.controllers c.0 k.0 in
    let there = k.4 n.0 n.1 in
    let u = stands_at n.0.upkeep p.0 there.0 in
    let can = upkeep_can w p chore u.0 (there.1 u.0 u.1) in (n.0, n.1, (u.0, u.1, can.0, can.1, can.2, can.3))

event_can : (w : State) (e : Event) (cost : Cost) → IsSafeWorld w → IsTyped w e → due_at w e ≡ Ok cost → CanGo w (way_of w e)
event_can w (event.Lead c on) cost s typed due = let n = stands_at w.controllers c.0 (lead_needs w c cost due).0 in (n.0, n.1, tt)
event_can w (event.CrashController c) cost s typed due = let n = stands_at w.controllers c.0 (lead_needs w c cost due).0 in (n.0, n.1, tt)
event_can w (event.RestartController c) cost s typed due = let n = stands_at w.controllers c.0 (restart_controller_needs w c cost due).0 in (n.0, n.1, tt)
event_can w (event.Consume i p q max) cost s typed due =
    let k = consume_needs w i p q max cost s due in
    let n = stands_at w.servers i.0 k.0 in (n.0, n.1, consumes_can n.0 p q w.log max w.moment (k.2 n.0 n.1).1)
event_can w (event.Force i p q) cost s typed due =
    let k = force_needs w i p q cost due in
    let n = stands_at w.servers i.0 k.0 in (n.0, n.1, forces_can n.0 p q (k.2 n.0 n.1))
event_can w (event.Stop i p q) cost s typed due =
    let k = stop_needs w i p q cost due in
    let n = stands_at w.servers i.0 k.0 in (n.0, n.1, stops_can n.0 p q (k.2 n.0 n.1))
event_can w (event.Build i p q) cost s typed due =
    let k = build_needs w i p q cost due in
    let n = stands_at w.servers i.0 k.0 in
    (n.0, n.1, builds_can n.0 p q (λ r found builds. seals_can w i.0 n.0 p q r s n.1 found builds (typed r (ap (λ o. replica_in o p q) n.1 ∙ found))) (k.2 n.0 n.1))
event_can w (event.Report i p q) cost s typed due =
    let k = report_needs w i p q cost s due in
    let n = stands_at w.servers i.0 k.0 in (n.0, n.1, asks_can n.0 p q (k.2 n.0 n.1).1)
event_can w (event.Extend i p q millis) cost s typed due =
    let k = extend_needs w i p q cost s due in
    let n = stands_at w.servers i.0 k.0 in (n.0, n.1, asks_for_can n.0 p q millis (k.2 n.0 n.1).1)
event_can w (event.Deliver m c) cost s typed due =
    let k = deliver_needs w m c cost s due in
    let q = some_there (request_at w m) k.0 in
    let n = stands_at w.controllers c.0 k.1 in
    let x = request_gives w.store w.deep n.0.controller q.0 w.moment in (
      q.0,
      q.1,
      (
        n.0,
        n.1,
        (
          x.0.controller,
          x.0.handled,
          store_after w.store (handle_call n.0.controller q.0),
          deep_after w.deep (handle_call n.0.controller q.0),
          made_request w.store w.deep n.0.controller q.0 w.moment x.0 s.safe.past.once x.1,
        ),
      ),
    )
event_can w (event.Job c j) cost s typed due =
    let k = job_needs w c j cost s due in
    let n = stands_at w.controllers c.0 k.1 in
    let has = subst (λ o. has_job_in o j ≡ true) n.1 k.0 in
    let jobs = (k.3 n.0 n.1).1.jobs in
    let x = work_gives w.store w.deep w.store.writes n.0.controller j w.moment has
    (λ place job at. (All-found (IsJob (k.3 n.0 n.1).0 w.store.writes) n.0.controller.jobs place job jobs at).at) in (
      n.0,
      n.1,
      (
        x.0.controller,
        x.0.step,
        store_after w.store (work_call n.0.controller j w.moment),
        deep_after w.deep (work_call n.0.controller j w.moment),
        made_work w.store w.deep n.0.controller j w.moment x.0 s.safe.past.once x.1,
      ),
    )
event_can w (event.Reply m) cost s typed due =
    let k = reply_needs w m cost due in
    let n = stands_at w.servers k.0.number.instance.0 k.2 in (k.0, k.1, (n.0, n.1, tt))
event_can w (event.CrashServer i) cost s typed due =
    let n = stands_at w.servers i.0 (crash_server_needs w i cost due).0 in (n.0, n.1, (node_crashed n.0, told.Down, (refl, refl)))
event_can w (event.RestartServer i) cost s typed due =
    let n = stands_at w.servers i.0 (restart_server_needs w i cost due).0 in (n.0, n.1, restarts_can w.store n.0)
event_can w (event.See i) cost s typed due =
    let n = stands_at w.servers i.0 (see_needs w i cost s due).0 in (n.0, n.1, sees_can w.store n.0)
event_can w (event.Transit i p q) cost s typed due =
    let k = transit_needs w i p q cost s due in
    let n = stands_at w.servers i.0 k.0 in (n.0, n.1, moves_can w.store n.0 p q w.moment (k.2 n.0 n.1).2)
event_can w (event.Download i p q) cost s typed due =
    let k = download_needs w i p q cost s due in
    let n = stands_at w.servers i.0 k.0 in
    let d = k.2 n.0 n.1 in (n.0, n.1, loads_can w.deep n.0 p q s.safe.past.once d.0 d.1)
event_can w (event.Repair c p) cost s typed due = chore_can w c p Repair cost s due
event_can w (event.Retain c p) cost s typed due = chore_can w c p Retire cost s due
event_can w (event.Route q p) cost s typed due =
    let k = route_needs w q p cost s due in
    let o = stands_at w.queries q k.0 in
    let a = k.1 o.0 o.1 in
    let c = routes_can w.store a.0 p a.3 in (a.0, o.1 ∙ ap (λ (x : Option Asking). Some x) a.1, c.0, c.1, c.2, c.3)
event_can w (event.Piece q p r i) cost s typed due =
    let k = (piece_needs w q p r i cost s due).0 in
    let a = k.asks.asked in
    let piece = k.asks.piece in
    let at = query_there w q a k.asks.there in
    let n = stands_at w.servers i.0 k.server in
    let c = gives_can w i.0 n.0 piece a.query s n.1 k.asks.ordered (k.asks.read n.0 n.1) in
    let g : GivesPiece w q p r i piece c.0 =
    record { asked = a; node = n.0; there = k.asks.there; stands = n.1; planned = k.asks.planned; gives = c.1 } in
    (a, at, piece, k.asks.planned, (n.0, n.1, (noted a piece i c.0, c.0, c.1, (k.due a piece c.0 at g, refl))))
event_can w (event.Answer q) cost s typed due =
    let a = (answer_needs w q cost s due).0 in
    let c = answers_can w q a.0 s a.1 a.2 in (a.0, a.1, c.0, c.1)
event_can w e cost s typed due = tt

dropped_fine : (due : Due) → dropped due ≡ Ok tt → (c : Cost) × (due ≡ Ok c)
dropped_fine (Ok c) e = (c, refl)
dropped_fine (Err f) e = absurd (cc)

pub due_happens : (w : State) (e : Event) → IsSafeWorld w → IsTyped w e → due_of w e ≡ Ok tt → (y : State) × (outcome : Outcome) × Steps w e y (Ok outcome)
due_happens w e s typed due =
    let d = dropped_fine (due_at w e) due in
    let x = can_go w (way_of w e) d.0 (event_can w e d.0 s typed d.1) in (x.0.0, x.0.1, (d.0, d.1, x.1))
