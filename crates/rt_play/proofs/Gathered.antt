-- What a `query` line gathers in a world: the plan of each partition that it could route is that of the world's metadata list, and what
-- was noted of a server is what that server gives there.
use Rattle.std.proofs.Common.{◌≡◌, ℕ, List, [], ◌∷◌, ◌++◌, map, length, Option, Some, None, Result, Ok, Err, refl, sym, ◌∙◌, ap, subst, slice_get, slice_set}
use Rattle.std.specs.Prelude.{option_map}
use Rattle.std.proofs.lemmas.Option.{none-some, same_Some}
use Rattle.rt_base.specs.declared.numbers.Instance.{Instance}
use Rattle.rt_base.specs.declared.numbers.Partition.{Partition}
use Rattle.rt_base.specs.declared.numbers.Sequence.{Sequence}
use Rattle.rt_broker.proofs.Lasting.{each_route, got_of_replicate, pieces_more, unasked_known}
use Rattle.rt_broker.proofs.Plans.{pieces_of_unasked, pieces_stay}
use Rattle.rt_broker.proofs.Telling.{routed_now}
use Rattle.rt_broker.specs.Asking.{Asking, asked_for, asking, plan_at, plan_in, route_at, unasked, with_answer, with_route}
use Rattle.rt_broker.specs.IsAsked.{AreKnownPieces}
use Rattle.rt_broker.specs.Noting.{Notes}
use Rattle.rt_broker.specs.Routing.{Routes as broker_routes}
use Rattle.rt_broker.specs.declared.piece_asked.PieceAnswer.{PieceAnswer}
use Rattle.rt_broker.specs.declared.piece_asked.PieceAsked.{PieceAsked}
use Rattle.rt_broker.specs.declared.piece_got.PieceGot.{PieceGot}
use Rattle.rt_broker.specs.declared.refused.BrokerRefused.{BrokerRefused}
use Rattle.rt_broker.specs.declared.refused.BrokerRefused.TheVariants as broker
use Rattle.rt_broker.specs.declared.route.Route.{Route}
use Rattle.rt_broker.specs.declared.route.Route.TheVariants.{Failed, Planned, Untried}
use Rattle.rt_events.specs.declared.event.Event.TheVariants as event
use Rattle.rt_events.specs.declared.outcome.Outcome.{Outcome}
use Rattle.rt_lists.proofs.Members.{slice_get-push}
use Rattle.rt_model.specs.Metadata.{metadata_of}
use Rattle.rt_model.specs.Plan.{plan_of}
use Rattle.rt_model.specs.declared.piece.Piece.{Piece}
use Rattle.rt_model.specs.declared.query.Query.{Query}
use Rattle.rt_nodes.specs.Queries.{Gives, routed_by}
use Rattle.rt_nodes.specs.declared.server_node.ServerNode.{ServerNode}
use Rattle.rt_safety.proofs.JobsOn.{own_slot}
use Rattle.rt_state.specs.Applying.{Next}
use Rattle.rt_state.specs.Finding.{query_at, query_in}
use Rattle.rt_state.specs.Queries.{PiecesAt, PiecesOf, RoutesAt}
use Rattle.rt_state.specs.declared.state.State.{State}
use Rattle.rt_store.specs.Meaning.{Told}
use Rattle.rt_store.specs.Memory.{means}
use Rattle.rt_world.proofs.KeepsQueries.{query_there, routed_reads}
use Rattle.rt_world.specs.Step.{Steps}

-- ---- what was noted

-- a server of this world gives this for a piece
pub record GivesIn (w : State) (query : Query) (piece : Piece) (y : PieceAnswer) : Type 0 where
  pub node : ServerNode
  pub there : slice_get w.servers y.from.0 ≡ Some node
  pub gives : Gives node piece query y.got

-- a plan is that of the world's metadata list, and what was noted of it is what the world's servers give
pub record IsPlanOf (w : State) (query : Query) (p : Partition) (xs : List PieceAsked) : Type 0 where
  pub plan : map (λ x. x.piece) xs ≡ plan_of p (metadata_of w.store.writes p)
  pub given : AreKnownPieces (GivesIn w query) xs

abbrev pub IsRouteOf : State → Query → Partition → Route → Type 0
IsRouteOf w query p Untried = Unit {0}
IsRouteOf w query p Failed = Unit {0}
IsRouteOf w query p (Planned xs) = IsPlanOf w query p xs

-- so it is of a query that was asked
abbrev pub AreRoutesOf : State → Asking → Type 0
AreRoutesOf w a = (p : Partition) (route : Route) → route_at a p ≡ Some route → IsRouteOf w a.query p route

-- ---- the query is asked

asked_routes : (w v : State) (query : Query) → AreRoutesOf w (asking query v.setup)
asked_routes w v query p route at = subst (IsRouteOf w query p) (got_of_replicate v.setup.partitions p.0 Untried route at) tt

-- ---- a partition is set

routes_with : (w : State) (a : Asking) (p : Partition) (route : Route) → AreRoutesOf w a → IsRouteOf w a.query p route → AreRoutesOf w (with_route a p route)
routes_with w a p route k r = each_route (IsRouteOf w a.query) a.routes p route k r

-- ---- a route

route_noted : (w u : State) (store : Told) (a b : Asking) (p : Partition) (answer : Result ℕ BrokerRefused) (o : Outcome) → u.store.writes ≡ w.store.writes
    → broker_routes (means u.store) (means store) a p b answer → routed_by answer ≡ Some o → AreRoutesOf w a → AreRoutesOf w b
route_noted w u store a b p (Ok count) o same r told k =
    let now = routed_now u.store store a b p count r in
    let plan = plan_of p (metadata_of u.store.writes p) in
    subst (AreRoutesOf w) (sym now.noted)
    (routes_with w a p (Planned (map unasked plan)) k
    (record { plan = sym (pieces_of_unasked plan) ∙ ap (λ h. plan_of p (metadata_of h p)) same; given = unasked_known (GivesIn w a.query) plan }))
route_noted w u store a b p (Err broker.NotDue) o same r told k = absurd (none-some o told)
route_noted w u store a b p (Err broker.StoreFault) o same r told k = subst (AreRoutesOf w) (sym r.2) (routes_with w a p Failed k tt)
route_noted w u store a b p (Err broker.Memory) o same r told k = absurd (none-some o told)

-- ---- a piece

plan_given : (w : State) (query : Query) (p : Partition) (s : Sequence) (y : PieceAnswer) (piece : Piece) (o : Option Route)
    → ((route : Route) → o ≡ Some route → IsRouteOf w query p route) → option_map (λ x. x.piece) (asked_for s (plan_in o)) ≡ Some piece
    → GivesIn w query piece y → IsPlanOf w query p (with_answer s y (plan_in o))
plan_given w query p s y piece None k e g = absurd (cc)
plan_given w query p s y piece (Some Untried) k e g = absurd (cc)
plan_given w query p s y piece (Some Failed) k e g = absurd (cc)
plan_given w query p s y piece (Some (Planned xs)) k e g =
    let was : IsPlanOf w query p xs = k (Planned xs) refl in
    record { plan = pieces_stay s y xs ∙ was.plan; given = pieces_more (GivesIn w query) s y xs piece was.given e g }

piece_noted : (w : State) (a b : Asking) (piece : Piece) (i : Instance) (what : PieceGot) → Notes a piece i what b (Ok tt)
    → GivesIn w a.query piece (record { from = i; got = what }) → AreRoutesOf w a → AreRoutesOf w b
piece_noted w a b piece i what n g k =
    let y : PieceAnswer = record { from = i; got = what } in
    subst (AreRoutesOf w) (sym n.1)
    (routes_with w a piece.partition (Planned (with_answer piece.sequence y (plan_at a piece.partition))) k
    (plan_given w a.query piece.partition piece.sequence y piece (route_at a piece.partition) (k piece.partition) n.0.0 g))

-- ---- a world on the way

-- nothing was written since, and the nodes are as they were; what was noted of the query of this number is of the world before
pub record Gathers (w : State) (number : ℕ) (u : State) : Type 0 where
  pub written : u.store.writes ≡ w.store.writes
  pub servers : u.servers ≡ w.servers
  pub controllers : u.controllers ≡ w.controllers
  pub routes : (a : Asking) → query_at u number ≡ Some a → AreRoutesOf w a

abbrev at : List (Option Asking) → ℕ → Option Asking
at queries number = query_in (slice_get queries number)

some_asking : (a b : Asking) (queries : List (Option Asking)) (number : ℕ) → slice_get queries number ≡ Some (Some a) → at queries number ≡ Some b → a ≡ b
some_asking a b queries number there e = same_Some a b (sym (ap query_in there) ∙ e)

pub ask_gathers : (w v : State) (query : Query) (o : Outcome) → Steps w (event.Ask query) v (Ok o) → Gathers w (length w.queries) v
ask_gathers w v query o (cost, due, is) =
    let a = asking query w.setup in
    let same : v.queries ≡ w.queries ++ Some a ∷ [] = ap (λ (x : Next). x.0.queries) is in
    record {
      written = ap (λ (x : Next). x.0.store.writes) is;
      servers = ap (λ (x : Next). x.0.servers) is;
      controllers = ap (λ (x : Next). x.0.controllers) is;
      routes = λ b e. subst (AreRoutesOf w)
          (some_asking a b (w.queries ++ Some a ∷ []) (length w.queries) (slice_get-push w.queries (Some a)) (sym (ap (λ qs. at qs (length w.queries)) same) ∙ e))
          (asked_routes w w query);
    }

-- the query that is put back is the one that is found
put_back : (u : State) (number : ℕ) (a b c : Asking) → query_at u number ≡ Some a → at (slice_set u.queries number (Some b)) number ≡ Some c → b ≡ c
put_back u number a b c there e =
    some_asking b c (slice_set u.queries number (Some b)) number (own_slot u.queries number (Some a) (Some b) (query_there u number a there)) e

pub route_gathers : (w u v : State) (number : ℕ) (p : Partition) (o : Outcome) → Gathers w number u → Steps u (event.Route number p) v (Ok o) → Gathers w number v
route_gathers w u v number p o k (cost, due, h) = by_query (query_at u number) refl h
  where
    by_query : (a : Option Asking) → query_at u number ≡ a → RoutesAt a u number p cost (v, o) → Gathers w number v
    by_query None there h = absurd h
    by_query (Some a) there (b, store, answer, routes, told, is) =
        let same : v.queries ≡ slice_set u.queries number (Some b) = ap (λ (x : State). x.queries) is in
        let reads = routed_reads u store a b p answer o routes told in
        let routed = route_noted w u store a b p answer o k.written routes told (k.routes a there) in
        record {
          written = ap (λ (x : State). x.store.writes) is ∙ reads ∙ k.written;
          servers = ap (λ (x : State). x.servers) is ∙ k.servers;
          controllers = ap (λ (x : State). x.controllers) is ∙ k.controllers;
          routes = λ c e. subst (AreRoutesOf w) (put_back u number a b c there (sym (ap (λ qs. at qs number) same) ∙ e)) routed;
        }

pub piece_gathers : (w u v : State) (number : ℕ) (p : Partition) (s : Sequence) (i : Instance) (o : Outcome) → Gathers w number u
    → Steps u (event.Piece number p s i) v (Ok o) → Gathers w number v
piece_gathers w u v number p s i o k (cost, due, h) = by_query (query_at u number) refl h
  where
    by_piece : (a : Asking) → query_at u number ≡ Some a → (f : Option Piece) (n : Option ServerNode) → slice_get u.servers i.0 ≡ n
        → PiecesOf f n a u number i cost (v, o) → Gathers w number v
    by_piece a there None n stands h = absurd h
    by_piece a there (Some piece) None stands h = absurd h
    by_piece a there (Some piece) (Some n) stands (b, what, gives, notes, is) =
        let same : v.queries ≡ slice_set u.queries number (Some b) = ap (λ (x : Next). x.0.queries) is in
        let given : GivesIn w a.query piece (record { from = i; got = what }) =
        record { node = n; there = ap (λ ns. slice_get ns i.0) (sym k.servers) ∙ stands; gives = gives } in
        let noted = piece_noted w a b piece i what notes given (k.routes a there) in
        record {
          written = ap (λ (x : Next). x.0.store.writes) is ∙ k.written;
          servers = ap (λ (x : Next). x.0.servers) is ∙ k.servers;
          controllers = ap (λ (x : Next). x.0.controllers) is ∙ k.controllers;
          routes = λ c e. subst (AreRoutesOf w) (put_back u number a b c there (sym (ap (λ qs. at qs number) same) ∙ e)) noted;
        }

    by_query : (a : Option Asking) → query_at u number ≡ a → PiecesAt a u number p s i cost (v, o) → Gathers w number v
    by_query None there h = absurd h
    by_query (Some a) there h = by_piece a there _ (slice_get u.servers i.0) refl h
