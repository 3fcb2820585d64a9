-- A run appends what its turns produce, and each query stays the one that was asked.
use Rattle.std.proofs.Common.{◌≡◌, ◌⊎◌, inl, inr, ℕ, List, [], ◌∷◌, ◌++◌, Ok, Option, Some, None, refl, sym, ◌∙◌, ap, subst, slice_get, get_or, length, ◌<◌, ◌≤◌, arith, length-append}
use Rattle.std.specs.Prelude.{slice_set}
use Rattle.std.proofs.lemmas.List.{length-set}
use Rattle.std.proofs.lemmas.Option.{none-some, same_Some, slice_get_cases, slice_get_within}
use Rattle.rt_base.specs.declared.numbers.ControllerId.{ControllerId}
use Rattle.rt_base.specs.declared.numbers.Instance.{Instance}
use Rattle.rt_base.specs.declared.numbers.Partition.{Partition}
use Rattle.rt_base.specs.declared.numbers.Sequence.{Sequence}
use Rattle.rt_broker.proofs.Lasting.{got_of_set}
use Rattle.rt_broker.specs.Asking.{Asking, asking, piece_at}
use Rattle.rt_controller.specs.declared.handled.Handled.{Handled}
use Rattle.rt_controller.specs.declared.handled.Handled.TheVariants as handled
use Rattle.rt_deep.specs.Meaning.{Told as ToldDeep}
use Rattle.rt_events.specs.declared.event.Event.{Event}
use Rattle.rt_events.specs.declared.event.Event.TheVariants as event
use Rattle.rt_events.specs.declared.outcome.Outcome.{Outcome}
use Rattle.rt_lists.proofs.Members.{slice_get-append, slice_get-push}
use Rattle.rt_model.specs.declared.job_step.JobStep.{JobStep}
use Rattle.rt_model.specs.declared.piece.Piece.{Piece}
use Rattle.rt_model.specs.declared.query.Query.{Query}
use Rattle.rt_model.specs.declared.reply.Reply.{Reply}
use Rattle.rt_model.specs.declared.request.Request.{Request}
use Rattle.rt_nodes.proofs.Looks.{takes_looks}
use Rattle.rt_nodes.specs.declared.controller_node.ControllerNode.{ControllerNode}
use Rattle.rt_nodes.specs.declared.server_node.ServerNode.{ServerNode}
use Rattle.rt_nodes.specs.declared.upkeep.Upkeep.{Upkeep}
use Rattle.rt_safety.specs.Produced.{AreAsked, appended, asked_in, log_after, queries_after}
use Rattle.rt_safety.specs.Runs.{Turn, happens, passes, TurnsTo, Leads}
use Rattle.rt_state.specs.Applying.{Next}
use Rattle.rt_state.specs.Finding.{query_at, reply_at, request_at}
use Rattle.rt_state.specs.Jobs.{JobSteps, JobStepsAt, noted_set, stepped_by}
use Rattle.rt_state.specs.Messages.{Delivers, DeliversAt, Replies, RepliesAt, after_step, handed, node_took}
use Rattle.rt_state.specs.Nodes.{ControllerDoes, ControllerDoesAt, ServerCalls, ServerCallsAt, ServerDoes, ServerDoesAt, ServerFetches, ServerFetchesAt, ServerGets, ServerGetsAt, ServerStep}
use Rattle.rt_state.specs.Queries.{Answers, AnswersAt, Pieces, PiecesAt, PiecesOf, Routes, RoutesAt}
use Rattle.rt_nodes.specs.declared.chore.Chore.{Chore}
use Rattle.rt_state.specs.Repairs.{Keeps, KeepsAt, upkeep_at}
use Rattle.rt_state.specs.Replicas.{NodeConsumes}
use Rattle.rt_state.specs.Requests.{AskStep, SendsAt, SendsRequest}
use Rattle.rt_state.specs.declared.cost.Cost.{Cost}
use Rattle.rt_state.specs.declared.state.State.{State}
use Rattle.rt_store.specs.Meaning.{Told}
use Rattle.rt_stream.specs.Log.{Log}
use Rattle.rt_world.proofs.KeepsQueries.{query_there, routed_query}
use Rattle.rt_world.specs.Step.{Steps, way_of}
use Rattle.rt_world.specs.Way.{Goes, Way}
use Rattle.rt_world.specs.Way as way

-- ---- a turn that neither appends nor asks

-- the stream and the queries are as they were
abbrev pub Untouched : State → State → Type 0
Untouched w v = (v.log ≡ w.log) × (v.queries ≡ w.queries)

same_as : (w x y : State) → x ≡ y → Untouched w y → Untouched w x
same_as w x y e u = subst (Untouched w) (sym e) u

server_does : (w : State) (i : Instance) (does : ServerStep) (cost : Cost) (x : Next) → ServerDoes w i does cost x → Untouched w x.0
server_does w i does cost x h = by_node (slice_get w.servers i.0) h
  where
    by_node : (o : Option ServerNode) → ServerDoesAt o w i does cost x → Untouched w x.0
    by_node None h = absurd h
    by_node (Some old) (new, step, is) = same_as w x.0 _ is (refl, refl)

server_calls : (w : State) (i : Instance) (does : Told → Told → ServerStep) (cost : Cost) (x : Next) → ServerCalls w i does cost x → Untouched w x.0
server_calls w i does cost x h = by_node (slice_get w.servers i.0) h
  where
    by_node : (o : Option ServerNode) → ServerCallsAt o w i does cost x → Untouched w x.0
    by_node None h = absurd h
    by_node (Some old) (new, store, step, is) = same_as w x.0 _ is (refl, refl)

server_gets : (w : State) (i : Instance) (does : ToldDeep → ToldDeep → ServerStep) (cost : Cost) (x : Next) → ServerGets w i does cost x → Untouched w x.0
server_gets w i does cost x h = by_node (slice_get w.servers i.0) h
  where
    by_node : (o : Option ServerNode) → ServerGetsAt o w i does cost x → Untouched w x.0
    by_node None h = absurd h
    by_node (Some old) (new, deep, step, is) = same_as w x.0 _ is (refl, refl)

server_fetches : (w : State) (i : Instance) (does : Log → Log → ServerStep) (cost : Cost) (x : Next)
    → ((old new : ServerNode) (log : Log) (o : Outcome) → does w.log log old new o → log ≡ w.log) → ServerFetches w i does cost x → Untouched w x.0
server_fetches w i does cost x quiet h = by_node (slice_get w.servers i.0) h
  where
    by_node : (o : Option ServerNode) → ServerFetchesAt o w i does cost x → Untouched w x.0
    by_node None h = absurd h
    by_node (Some old) (new, log, step, is) = same_as w x.0 _ is (quiet old new log x.1 step, refl)

sends_one : (w : State) (i : Instance) (asks : AskStep) (cost : Cost) (x : Next) → SendsRequest w i asks cost x → Untouched w x.0
sends_one w i asks cost x h = by_node (slice_get w.servers i.0) h
  where
    by_node : (o : Option ServerNode) → SendsAt o w i asks cost x → Untouched w x.0
    by_node None h = absurd h
    by_node (Some old) (new, request, step, is) = same_as w x.0 _ (ap (λ (z : Next). z.0) is) (refl, refl)

replies_to : (w : State) (m : ℕ) (cost : Cost) (x : Next) → Replies w m cost x → Untouched w x.0
replies_to w m cost x h = by_reply (reply_at w m) h
  where
    by_reply : (o : Option Reply) → RepliesAt o w cost x → Untouched w x.0
    by_reply None h = absurd h
    by_reply (Some r) h = server_does w r.number.instance (λ old new outcome. (outcome, new) ≡ node_took old r) cost x h

controller_does : (w : State) (c : ControllerId) (does : ControllerNode → ControllerNode) (outcome : Outcome) (cost : Cost) (x : Next)
    → ControllerDoes w c does outcome cost x → Untouched w x.0
controller_does w c does outcome cost x h = by_node (slice_get w.controllers c.0) h
  where
    by_node : (o : Option ControllerNode) → ControllerDoesAt o w c does outcome cost x → Untouched w x.0
    by_node None h = absurd h
    by_node (Some old) is = same_as w x.0 _ (ap (λ (z : Next). z.0) is) (refl, refl)

handed_on : (w : State) (cost : Cost) (what : Handled) → Untouched w (handed w cost what).0
handed_on w cost (handled.Reply r) = (refl, refl)
handed_on w cost (handled.Job j) = (refl, refl)

delivers : (w : State) (m : ℕ) (c : ControllerId) (cost : Cost) (x : Next) → Delivers w m c cost x → Untouched w x.0
delivers w m c cost x h = by_node (request_at w m) (slice_get w.controllers c.0) h
  where
    by_node : (o : Option Request) (p : Option ControllerNode) → DeliversAt o p w c cost x → Untouched w x.0
    by_node None p h = absurd h
    by_node (Some q) None h = absurd h
    by_node (Some q) (Some node) (new, what, store, deep, handles, is) =
        same_as w x.0 _ (ap (λ (z : Next). z.0) is) (handed_on (after_step w c node new store deep) cost what)

stepped_on : (w : State) (cost : Cost) (step : JobStep) (o : Option Reply) → Untouched w (stepped_by w cost step o).0
stepped_on w cost step None = (refl, refl)
stepped_on w cost step (Some r) = (refl, refl)

job_steps : (w : State) (c : ControllerId) (j : ℕ) (cost : Cost) (x : Next) → JobSteps w c j cost x → Untouched w x.0
job_steps w c j cost x h = by_node (slice_get w.controllers c.0) h
  where
    by_node : (o : Option ControllerNode) → JobStepsAt o w c j cost x → Untouched w x.0
    by_node None h = absurd h
    by_node (Some node) (new, step, store, deep, works, is) =
        same_as w x.0 _ (ap (λ (z : Next). z.0) is)
        (stepped_on (noted_set (after_step w c node new store deep) cost (length w.store.writes)) cost step step.reply)

chores : (w : State) (c : ControllerId) (p : Partition) (chore : Chore) (cost : Cost) (x : Next) → Keeps w c p chore cost x → Untouched w x.0
chores w c p chore cost x h = by_node (slice_get w.controllers c.0) (upkeep_at w c p) h
  where
    by_node : (o : Option ControllerNode) (u : Option Upkeep) → KeepsAt o u w c p chore cost x → Untouched w x.0
    by_node None u h = absurd h
    by_node (Some node) None h = absurd h
    by_node (Some node) (Some u) (new, store, step, is) = same_as w x.0 _ is (refl, refl)

-- ---- an event that neither appends nor has to do with a query

-- the way of one node, but for a look at the stream
abbrev IsOfNode : Way → Type 0
IsOfNode (way.looks i does) = ⊥
IsOfNode (way.routes q p) = ⊥
IsOfNode (way.serves q p s i) = ⊥
IsOfNode (way.closes q) = ⊥
IsOfNode (way.outside next) = ⊥
IsOfNode other = Unit {0}

node_leaves : (w : State) (y : Way) (cost : Cost) (x : Next) → IsOfNode y → Goes w y cost x → Untouched w x.0
node_leaves w (way.alone i does) cost x of h = server_does w i does cost x h
node_leaves w (way.calls i does) cost x of h = server_calls w i does cost x h
node_leaves w (way.gets i does) cost x of h = server_gets w i does cost x h
node_leaves w (way.sends i asks) cost x of h = sends_one w i asks cost x h
node_leaves w (way.takes m) cost x of h = replies_to w m cost x h
node_leaves w (way.turns c does outcome) cost x of h = controller_does w c does outcome cost x h
node_leaves w (way.handles m c) cost x of h = delivers w m c cost x h
node_leaves w (way.works c j) cost x of h = job_steps w c j cost x h
node_leaves w (way.keeps c p chore) cost x of h = chores w c p chore cost x h
node_leaves w y cost x of h = absurd of

outside_leaves : (w v : State) (o : Outcome) (x : Next) → (v, o) ≡ x → Untouched w x.0 → Untouched w v
outside_leaves w v o x is u = same_as w v x.0 (ap (λ (z : Next). z.0) is) u

abbrev pub IsQuiet : Event → Type 0
IsQuiet (event.Produce p message) = ⊥
IsQuiet (event.Ask query) = ⊥
IsQuiet (event.Route q p) = ⊥
IsQuiet (event.Piece q p s i) = ⊥
IsQuiet (event.Answer q) = ⊥
IsQuiet e = Unit {0}

pub quiet_leaves : (w v : State) (e : Event) (o : Outcome) → IsQuiet e → Steps w e v (Ok o) → Untouched w v
quiet_leaves w v (event.Produce p message) o quiet steps = absurd quiet
quiet_leaves w v (event.Ask query) o quiet steps = absurd quiet
quiet_leaves w v (event.Route q p) o quiet steps = absurd quiet
quiet_leaves w v (event.Piece q p s i) o quiet steps = absurd quiet
quiet_leaves w v (event.Answer q) o quiet steps = absurd quiet
quiet_leaves w v (event.Tick millis) o quiet (cost, due, is) = outside_leaves w v o _ is (refl, refl)
quiet_leaves w v (event.FaultStore kept) o quiet (cost, due, is) = outside_leaves w v o _ is (refl, refl)
quiet_leaves w v (event.FaultDeep kept) o quiet (cost, due, is) = outside_leaves w v o _ is (refl, refl)
quiet_leaves w v (event.ShowMeta p q) o quiet (cost, due, is) = outside_leaves w v o _ is (refl, refl)
quiet_leaves w v event.ShowIdeal o quiet (cost, due, is) = outside_leaves w v o _ is (refl, refl)
quiet_leaves w v (event.Consume i p q max) o quiet (cost, due, h) =
    server_fetches w i (NodeConsumes p q max w.moment) cost (v, o)
    (λ old next log outcome step. takes_looks w.log log old.server.table next.server.table p q max w.moment (Ok tt) step.0) h
quiet_leaves w v e o quiet (cost, due, h) = node_leaves w (way_of w e) cost (v, o) tt h

-- ---- queries

-- what stands in a list behind which something was put
got_of_push : {X : Type 0} (xs : List X) (x y : X) (i : ℕ) → slice_get (xs ++ x ∷ []) i ≡ Some y → ((i ≡ length xs) × (y ≡ x)) ⊎ (slice_get xs i ≡ Some y)
got_of_push {X} xs x y i e = by_place (slice_get_cases xs i).1
  where
    by_place : ((z : X) × (i < length xs) × (slice_get xs i ≡ Some z) × (get_or xs i z ≡ z)) ⊎ ((length xs ≤ i) × (slice_get xs i ≡ None))
        → ((i ≡ length xs) × (y ≡ x)) ⊎ (slice_get xs i ≡ Some y)
    by_place (inl (z, within, at, same)) = inr (at ∙ sym (slice_get-append xs (x ∷ []) i z at) ∙ e)
    by_place (inr (past, none)) =
        let last : i ≡ length xs = omega (arith, past, slice_get_within (xs ++ x ∷ []) i y e, length-append xs (x ∷ [])) in
        inl (last, same_Some y x (sym e ∙ ap (slice_get (xs ++ x ∷ [])) last ∙ slice_get-push xs x))

abbrev some_asked : Asking → Option Asking
some_asked a = Some a

same_asked : (a b : Asking) → some_asked a ≡ some_asked b → a ≡ b
same_asked a b e = cc

-- a query more
asked_more : (w v : State) (queries : List Query) (query : Query) (a : Asking) → AreAsked w queries → a.query ≡ query → v.queries ≡ w.queries ++ Some a ∷ []
    → AreAsked v (queries ++ query ∷ [])
asked_more w v queries query a k is e = record {
  count = ap (λ (qs : List (Option Asking)). length qs) e ∙ omega (arith, k.count, length-append w.queries (Some a ∷ []), length-append queries (query ∷ []));
  same = λ q b at. by_place q b (got_of_push w.queries (Some a) (Some b) q (sym (ap (λ (qs : List (Option Asking)). slice_get qs q) e) ∙ at));
}
  where
    by_place : (q : ℕ) (b : Asking) → ((q ≡ length w.queries) × (some_asked b ≡ some_asked a)) ⊎ (slice_get w.queries q ≡ Some (Some b))
        → slice_get (queries ++ query ∷ []) q ≡ Some b.query
    by_place q b (inl (last, same)) =
        ap (slice_get (queries ++ query ∷ [])) (last ∙ k.count) ∙ slice_get-push queries query
        ∙ ap (λ (x : Query). Some x) (sym is ∙ ap (λ (x : Asking). x.query) (sym (same_asked b a same)))
    by_place q b (inr at) = slice_get-append queries (query ∷ []) q b.query (k.same q b at)

-- the query of a number is put back, or was answered
asked_put : (w v : State) (queries : List Query) (q : ℕ) (o : Option Asking) → AreAsked w queries
    → ((b : Asking) → o ≡ Some b → slice_get queries q ≡ Some b.query) → v.queries ≡ slice_set w.queries q o → AreAsked v queries
asked_put w v queries q o k here e = record {
  count = ap (λ (qs : List (Option Asking)). length qs) e ∙ length-set w.queries q o ∙ k.count;
  same = λ r b at. by_place r b (got_of_set w.queries q r o (Some b) (sym (ap (λ (qs : List (Option Asking)). slice_get qs r) e) ∙ at));
}
  where
    by_place : (r : ℕ) (b : Asking) → ((r ≡ q) × (some_asked b ≡ o)) ⊎ (slice_get w.queries r ≡ Some (Some b)) → slice_get queries r ≡ Some b.query
    by_place r b (inl (own, same)) = ap (slice_get queries) own ∙ here b (sym same)
    by_place r b (inr at) = k.same r b at

asked_still : (w v : State) (queries : List Query) → AreAsked w queries → v.queries ≡ w.queries → AreAsked v queries
asked_still w v queries k e = record {
  count = ap (λ (qs : List (Option Asking)). length qs) e ∙ k.count;
  same = λ q b at. k.same q b (sym (ap (λ (qs : List (Option Asking)). slice_get qs q) e) ∙ at);
}

-- ---- an event

-- what a turn leaves of the stream and of the queries
pub record Leaves (w : State) (turn : Turn) (v : State) : Type 0 where
  pub log : v.log ≡ log_after w.log turn
  pub queries : (queries : List Query) → AreAsked w queries → AreAsked v (queries_after queries turn)

quietly : (w v : State) → Untouched w v → (v.log ≡ w.log) × ((queries : List Query) → AreAsked w queries → AreAsked v queries)
quietly w v u = (u.0, λ queries k. asked_still w v queries k u.1)

routes_leave : (w : State) (q : ℕ) (p : Partition) (cost : Cost) (x : Next) → Routes w q p cost x
    → (x.0.log ≡ w.log) × ((queries : List Query) → AreAsked w queries → AreAsked x.0 queries)
routes_leave w q p cost x h = by_query (query_at w q) refl h
  where
    by_query : (o : Option Asking) → query_at w q ≡ o → RoutesAt o w q p cost x
        → (x.0.log ≡ w.log) × ((queries : List Query) → AreAsked w queries → AreAsked x.0 queries)
    by_query None there h = absurd h
    by_query (Some a) there (new, store, answer, routes, routed, is) = (
      ap (λ (z : State). z.log) is,
      λ queries k. asked_put w x.0 queries q (Some new) k
          (λ b e. k.same q a (query_there w q a there)
          ∙ ap (λ (y : Query). Some y) (sym (ap (λ (y : Asking). y.query) (same_asked b new (sym e)) ∙ routed_query _ _ a new p answer routes)))
          (ap (λ (z : State). z.queries) is),
    )

pieces_leave : (w : State) (q : ℕ) (p : Partition) (s : Sequence) (i : Instance) (cost : Cost) (x : Next) → Pieces w q p s i cost x
    → (x.0.log ≡ w.log) × ((queries : List Query) → AreAsked w queries → AreAsked x.0 queries)
pieces_leave w q p s i cost x h = by_query (query_at w q) refl h
  where
    by_piece : (a : Asking) → query_at w q ≡ Some a → (piece : Option Piece) (held : Option ServerNode) → PiecesOf piece held a w q i cost x
        → (x.0.log ≡ w.log) × ((queries : List Query) → AreAsked w queries → AreAsked x.0 queries)
    by_piece a there None held h = absurd h
    by_piece a there (Some piece) None h = absurd h
    by_piece a there (Some piece) (Some node) (new, what, gives, notes, is) = (
      ap (λ (z : Next). z.0.log) is,
      λ queries k. asked_put w x.0 queries q (Some new) k
          (λ b e. k.same q a (query_there w q a there)
          ∙ ap (λ (y : Query). Some y) (sym (ap (λ (y : Asking). y.query) (same_asked b new (sym e)) ∙ ap (λ (y : Asking). y.query) notes.1)))
          (ap (λ (z : Next). z.0.queries) is),
    )

    by_query : (o : Option Asking) → query_at w q ≡ o → PiecesAt o w q p s i cost x
        → (x.0.log ≡ w.log) × ((queries : List Query) → AreAsked w queries → AreAsked x.0 queries)
    by_query None there h = absurd h
    by_query (Some a) there h = by_piece a there (piece_at a p s) (slice_get w.servers i.0) h

answers_leave : (w : State) (q : ℕ) (cost : Cost) (x : Next) → Answers w q cost x
    → (x.0.log ≡ w.log) × ((queries : List Query) → AreAsked w queries → AreAsked x.0 queries)
answers_leave w q cost x h = by_query (query_at w q) h
  where
    by_query : (o : Option Asking) → AnswersAt o w q cost x → (x.0.log ≡ w.log) × ((queries : List Query) → AreAsked w queries → AreAsked x.0 queries)
    by_query None h = absurd h
    by_query (Some a) (answer, of, is) = (
      ap (λ (z : Next). z.0.log) is,
      λ queries k. asked_put w x.0 queries q None k (λ b e. absurd (none-some b e)) (ap (λ (z : Next). z.0.queries) is),
    )

module _ (w v : State) (o : Outcome) where
  leaves : (e : Event) → (v.log ≡ w.log) × ((queries : List Query) → AreAsked w queries → AreAsked v queries)
      → log_after w.log (happens e o) ≡ w.log → ((queries : List Query) → queries_after queries (happens e o) ≡ queries) → Leaves w (happens e o) v
  leaves e u log same = record { log = u.0 ∙ sym log; queries = λ queries k. subst (AreAsked v) (sym (same queries)) (u.1 queries k) }

  pub event_leaves : (e : Event) → Steps w e v (Ok o) → Leaves w (happens e o) v
  event_leaves (event.Produce p message) (cost, due, is) = record {
    log = ap (λ (z : Next). z.0.log) is;
    queries = λ queries k. asked_still w v queries k (ap (λ (z : Next). z.0.queries) is);
  }
  event_leaves (event.Ask query) (cost, due, is) = record {
    log = ap (λ (z : Next). z.0.log) is;
    queries = λ queries k. asked_more w v queries query (asking query w.setup) k refl (ap (λ (z : Next). z.0.queries) is);
  }
  event_leaves (event.Route q p) (cost, due, h) = leaves (event.Route q p) (routes_leave w q p cost (v, o) h) refl (λ queries. refl)
  event_leaves (event.Piece q p s i) (cost, due, h) = leaves (event.Piece q p s i) (pieces_leave w q p s i cost (v, o) h) refl (λ queries. refl)
  event_leaves (event.Answer q) (cost, due, h) = leaves (event.Answer q) (answers_leave w q cost (v, o) h) refl (λ queries. refl)
  event_leaves e steps = leaves e (quietly w v (quiet_leaves w v e o tt steps)) refl (λ queries. refl)

-- ---- turns

turn_leaves : (w : State) (turn : Turn) (v : State) → TurnsTo w turn v → Leaves w turn v
turn_leaves w (happens e o) v (fits, steps) = event_leaves w v o e steps
turn_leaves w passes v (cost, due, is) = record {
  log = ap (λ (z : State). z.log) is;
  queries = λ queries k. asked_still w v queries k (ap (λ (z : State). z.queries) is);
}

pub run_appends : (w : State) (turns : List Turn) (v : State) → Leads w turns v → v.log ≡ appended w.log turns
run_appends w [] v same = ap (λ (z : State). z.log) same
run_appends w (turn ∷ turns) v (next, t, rest) =
    run_appends next turns v rest ∙ ap (λ (log : Log). appended log turns) (turn_leaves w turn next t).log

pub run_asks : (w : State) (turns : List Turn) (v : State) (queries : List Query) → Leads w turns v → AreAsked w queries → AreAsked v (asked_in queries turns)
run_asks w [] v queries same k = subst (λ (z : State). AreAsked z queries) (sym same) k
run_asks w (turn ∷ turns) v queries (next, t, rest) k =
    run_asks next turns v (queries_after queries turn) rest ((turn_leaves w turn next t).queries queries k)
