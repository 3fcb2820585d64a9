-- A query is refused by a limit alone.
use Rattle.std.proofs.Common.{◌≡◌, ◌+◌, ◌-◌, ◌*◌, ◌<◌, ◌≤◌, ◌⊎◌, ◌&&◌, ◌||◌, ◌++◌, ◌∷◌, [], inl, inr, ℕ, zero, suc, Bool, true, false, List, map, length, not, Option, Some, None, Result, Ok, Err, is_some, refl, sym, ◌∙◌, ap, subst, arith, slice_get, slice_set}
use Rattle.std.specs.Prelude.{option_map, replicate}
use Rattle.std.specs.List.{list_all}
use Rattle.std.proofs.lemmas.Bool.{cases_lt, lt-ltb}
use Rattle.std.proofs.lemmas.Nat.{mod_below}
use Rattle.std.proofs.lemmas.Option.{none-some, same_Some, slice_get_within}
use Rattle.rt_assign.specs.Placement.{replica_of, replicas_of}
use Rattle.rt_base.specs.declared.numbers.Instance.{Instance}
use Rattle.rt_base.specs.declared.numbers.Partition.{Partition}
use Rattle.rt_broker.proofs.Lasting.{got_of_set}
use Rattle.rt_broker.proofs.Plans.{pieces_of_unasked, pieces_stay}
use Rattle.rt_broker.proofs.Telling.{routed_now}
use Rattle.rt_broker.specs.Asking.{Asking, are_settled, asked_for, asking, assigned_at, is_answer_due, is_due_of, is_one_of, is_piece_due, is_route_settled, is_settled, is_tried, is_tried_in, piece_at, plan_at, plan_in, served_in, unasked, was_asked, with_answer, with_route}
use Rattle.rt_broker.specs.Noting.{noted}
use Rattle.rt_broker.specs.Routing.{Routes as broker_routes}
use Rattle.rt_broker.specs.declared.piece_asked.PieceAnswer.{PieceAnswer}
use Rattle.rt_broker.specs.declared.piece_asked.PieceAsked.{PieceAsked}
use Rattle.rt_broker.specs.declared.piece_got.PieceGot.{PieceGot}
use Rattle.rt_broker.specs.declared.piece_got.PieceGot.TheVariants as got
use Rattle.rt_broker.specs.declared.refused.BrokerRefused.{BrokerRefused}
use Rattle.rt_broker.specs.declared.refused.BrokerRefused.TheVariants as broker
use Rattle.rt_broker.specs.declared.route.Route.{Route}
use Rattle.rt_broker.specs.declared.route.Route.TheVariants.{Failed, Planned, Untried}
use Rattle.rt_events.specs.declared.event.Event.{Event}
use Rattle.rt_events.specs.declared.event.Event.TheVariants as event
use Rattle.rt_events.specs.declared.outcome.Outcome.{Outcome}
use Rattle.rt_events.specs.declared.outcome.Outcome.TheVariants as came
use Rattle.rt_events.specs.declared.refusal.Refusal.{Refusal}
use Rattle.rt_events.specs.declared.refusal.Refusal.TheVariants.{NoSuchNode, NothingToDo}
use Rattle.rt_lists.proofs.Members.{slice_get-push}
use Rattle.rt_macros.specs.Doing.{Each, Gives, Happens, Reached, Then}
use Rattle.rt_macros.specs.Outcomes.{answer_in, asked_in, is_served}
use Rattle.rt_macros.specs.Querying.{AfterAsking, AnswersNow, AsksAll, AsksAndAnswers, AsksOne, AsksPartition, AsksPiece, AsksReplicas, ByNumber, GivesAnswer, Queries, RoutesAll, RoutesOne, TellsServed}
use Rattle.rt_model.proofs.Listings.{has_listings}
use Rattle.rt_model.specs.Checked.{IsQuery}
use Rattle.rt_model.specs.Chain.{deletions_of}
use Rattle.rt_model.specs.Metadata.{metadata_of, sequences_of}
use Rattle.rt_model.specs.Plan.{plan_of}
use Rattle.rt_model.specs.Setup.{IsSetup}
use Rattle.rt_model.specs.declared.answer.Answer.{Answer}
use Rattle.rt_model.specs.declared.piece.Piece.{Piece}
use Rattle.rt_model.specs.declared.query.Query.{Query}
use Rattle.rt_model.specs.declared.setup.Setup.{Setup}
use Rattle.rt_nodes.specs.Queries.{piece_outcome, routed_by}
use Rattle.rt_nodes.specs.declared.server_node.ServerNode.{ServerNode}
use Rattle.rt_safety.proofs.JobsOn.{other_slot, own_slot}
use Rattle.rt_state.specs.Applying.{Next}
use Rattle.rt_state.specs.Finding.{has_partition, has_server, query_at, query_in}
use Rattle.rt_state.specs.IsSafeWorld.{IsSafeWorld}
use Rattle.rt_state.specs.Queries.{AnswersAt, PiecesAt, PiecesOf, RoutesAt, answer_by, piece_by, route_by}
use Rattle.rt_state.specs.Room.{no_cost, only_if, priced, query_cost}
use Rattle.rt_state.specs.declared.state.State.{State}
use Rattle.rt_store.specs.Contents.{starting_of}
use Rattle.rt_store.specs.Meaning.{Told}
use Rattle.rt_store.specs.Memory.{means}
use Rattle.rt_unrefused.proofs.Exchanging.{IsIn, then_in}
use Rattle.rt_unrefused.proofs.Goes.{Ends, GoesTo, each_from_to, each_left_to, gives_to, happens_to, passed_to, then_to}
use Rattle.rt_unrefused.proofs.Only.{Only, only_dropped, only_met, only_priced}
use Rattle.rt_unrefused.proofs.Pieces.{AreFresh, AskedUpTo, IsAsking, IsLeft, Rise, all_asked, all_left, asked_ends, asked_so, asks_on, begins, found_asked, is_assigned, left_above, none_asked, none_left, one_asked, pieces_in, plan_rises, rise_from, served_more, unasked_fresh}
use Rattle.rt_unrefused.specs.Refused.{IsLimit}
use Rattle.rt_world.proofs.KeepsQueries.{asked_there, query_there}
use Rattle.rt_world.specs.Reading.{pieces_by}
use Rattle.rt_world.specs.Step.{Steps, due_of}

abbrev numbered : ℕ → Partition
numbered n = record { 0 = n }

-- ---- routes of a query

-- a partition that was tried: the pieces of its plan rise, and of none was asked yet
abbrev IsReady : ℕ → Route → Type 0
IsReady n Untried = ⊥
IsReady n Failed = Unit {0}
IsReady n (Planned xs) = Rise (numbered n) 0 (pieces_in xs) × AreFresh xs

-- the first ones were tried, and the others weren't
record AreTried (partitions k : ℕ) (routes : List Route) : Type 0 where
  tried : (j : ℕ) (route : Route) → j < k → slice_get routes j ≡ Some route → IsReady j route
  others : (j : ℕ) → k ≤ j → j < partitions → slice_get routes j ≡ Some Untried

-- a walk from the first one
none_before : (n m : ℕ) → n ≡ m → 0 + n ≡ m
none_before n m same = omega (arith, same)

untried : (n i : ℕ) → i < n → slice_get (replicate n Untried) i ≡ Some Untried
untried zero i lt = absurd (omega (arith, lt))
untried (suc n) zero lt = refl
untried (suc n) (suc i) lt = untried n i (omega (arith, lt))

none_tried : (partitions : ℕ) → AreTried partitions 0 (replicate partitions Untried)
none_tried partitions = record { tried = λ j route lt. absurd (omega (arith, lt)); others = λ j le lt. untried partitions j lt }

abbrev some_route : Route → Option Route
some_route r = Some r

one_tried : (partitions k : ℕ) (routes : List Route) (route : Route) → k < partitions → AreTried partitions k routes → IsReady k route
    → AreTried partitions (k + 1) (slice_set routes k route)
one_tried partitions k routes route lt t ready = record {
  tried = λ j other less at. by_place j other less at (cases_lt j k);
  others = λ j le within. other_slot routes k j route Untried (λ same. absurd (omega (arith, le, same))) (t.others j (omega (arith, le)) within);
}
  where
    here : slice_get (slice_set routes k route) k ≡ Some route
    here = own_slot routes k Untried route (t.others k (omega arith) lt)

    by_old : (j : ℕ) (other : Route) → j < k → ((j ≡ k) × (other ≡ route)) ⊎ (slice_get routes j ≡ Some other) → IsReady j other
    by_old j other less (inl (same, is)) = absurd (omega (arith, less, same))
    by_old j other less (inr at) = t.tried j other less at

    by_place : (j : ℕ) (other : Route) → j < k + 1 → slice_get (slice_set routes k route) j ≡ Some other → (j < k) ⊎ (k ≤ j) → IsReady j other
    by_place j other less at (inl lt) = by_old j other lt (got_of_set routes k j route other at)
    by_place j other less at (inr le) =
        let same : k ≡ j = omega (arith, less, le) in
        let is : other ≡ route = same_Some other route (sym at ∙ ap (slice_get (slice_set routes k route)) (sym same) ∙ here) in
        subst (λ (n : ℕ). IsReady n other) same (subst (IsReady k) (sym is) ready)

-- ---- the query is there

-- what is known of it in a safe world
record IsThere (s : Setup) (number : ℕ) (u : State) (a : Asking) : Type 0 where
  world : IsIn s u
  there : query_at u number ≡ Some a
  servers : a.servers ≡ s.servers
  replication : a.replication ≡ s.table.replication
  count : length a.routes ≡ s.partitions

is_there : (s : Setup) (number : ℕ) (u : State) (a : Asking) → IsIn s u → query_at u number ≡ Some a → IsThere s number u a
is_there s number u a k at =
    let over = (asked_there u number a k.safe.safe at).over in
    record {
      world = k;
      there = at;
      servers = over.servers ∙ ap (λ (x : Setup). x.servers) k.setup;
      replication = over.replication ∙ ap (λ (x : Setup). x.table.replication) k.setup;
      count = over.partitions ∙ ap (λ (x : Setup). x.partitions) k.setup;
    }

-- the query that is put back is found
put_back : (u v : State) (number : ℕ) (a b : Asking) → query_at u number ≡ Some a → v.queries ≡ slice_set u.queries number (Some b) → query_at v number ≡ Some b
put_back u v number a b at same =
    ap (λ qs. query_in (slice_get qs number)) same ∙ ap query_in (own_slot u.queries number (Some a) (Some b) (query_there u number a at))

module _ (s : Setup) (number : ℕ) where
  -- ---- each partition is routed

  record Routed (k : ℕ) (u : State) : Type 0 where
    asked : Asking
    is : IsThere s number u asked
    tried : AreTried s.partitions k asked.routes

  route_goes : (k : ℕ) (u : State) → k < s.partitions → Routed k u → Only IsLimit (due_of u (event.Route number (numbered k)))
  route_goes k u lt r =
      let p = numbered k in
      let there : has_partition u p ≡ true = lt-ltb k u.setup.partitions (subst (λ (x : Setup). k < x.partitions) (sym r.is.world.setup) lt) in
      let test : not (is_tried r.asked p) ≡ true = ap (λ (o : Option Route). not (is_tried_in o)) (r.tried.others k (omega arith) lt) in
      only_dropped IsLimit (only_if (has_partition u p) NoSuchNode (route_by u p (query_at u number)))
      (only_met IsLimit (has_partition u p) NoSuchNode (route_by u p (query_at u number)) there
      (subst (λ (o : Option Asking). Only IsLimit (route_by u p o)) (sym r.is.there)
      (only_met IsLimit (not (is_tried r.asked p)) NothingToDo (priced u no_cost) test (only_priced u no_cost))))

  -- what is noted of it
  record IsRouted (u : State) (k : ℕ) (a : Asking) (v : State) : Type 0 where
    route : Route
    ready : IsReady k route
    now : query_at v number ≡ Some (with_route a (numbered k) route)

  route_noted : (k : ℕ) (u v : State) (a b : Asking) (store : Told) (answer : Result ℕ BrokerRefused) (o : Outcome) → k < u.setup.partitions → IsSafeWorld u
      → query_at u number ≡ Some a → v.queries ≡ slice_set u.queries number (Some b) → broker_routes (means u.store) (means store) a (numbered k) b answer
      → routed_by answer ≡ Some o → IsRouted u k a v
  route_noted k u v a b store (Ok count) o within safe at same r told =
      let p = numbered k in
      let now = routed_now u.store store a b p count r in
      let plan = plan_of p (metadata_of u.store.writes p) in
      let run = (has_listings (starting_of u.setup) u.store.writes safe.safe.past.lawful p within).run in
      let lowest = deletions_of u.store.writes p in
      let rises = plan_rises p (metadata_of u.store.writes p) lowest (sequences_of u.store.writes p - lowest) run in
      record {
        route = Planned (map unasked plan);
        ready = (subst (Rise p 0) (pieces_of_unasked plan) (rise_from p 0 lowest plan (omega arith) rises), unasked_fresh plan);
        now = put_back u v number a b at same ∙ ap (λ (x : Asking). some_asking x) now.noted;
      }
    where
      some_asking : Asking → Option Asking
      some_asking x = Some x
  route_noted k u v a b store (Err broker.NotDue) o within safe at same r told = absurd (none-some o told)
  route_noted k u v a b store (Err broker.StoreFault) o within safe at same r told = record {
    route = Failed;
    ready = tt;
    now = put_back u v number a b at same ∙ ap (λ (x : Asking). some_asking x) r.2;
  }
    where
      some_asking : Asking → Option Asking
      some_asking x = Some x
  route_noted k u v a b store (Err broker.Memory) o within safe at same r told = absurd (none-some o told)

  route_step : (k : ℕ) (u v : State) (a : Asking) (o : Outcome) → k < u.setup.partitions → IsSafeWorld u → query_at u number ≡ Some a
      → Steps u (event.Route number (numbered k)) v (Ok o) → IsRouted u k a v
  route_step k u v a o within safe at steps =
      by_query (subst (λ (x : Option Asking). RoutesAt x u number (numbered k) steps.0 (v, o)) at steps.2)
    where
      by_query : RoutesAt (Some a) u number (numbered k) steps.0 (v, o) → IsRouted u k a v
      by_query (b, store, answer, routes, told, is) = route_noted k u v a b store answer o within safe at (ap (λ (x : State). x.queries) is) routes told

  routes_one : (k : ℕ) (u : State) → k < s.partitions → Routed k u → GoesTo (λ done. Routed (k + 1)) (RoutesOne number k tt u)
  routes_one k u lt r =
      passed_to (Routed (k + 1)) (event.Route number (numbered k)) u (route_goes k u lt r)
      (λ v o steps.
      let routed = route_step k u v r.asked o (subst (λ (x : Setup). k < x.partitions) (sym r.is.world.setup) lt) r.is.world.safe r.is.there steps in
      record {
        asked = with_route r.asked (numbered k) routed.route;
        is = is_there s number v (with_route r.asked (numbered k) routed.route) (then_in s u v (event.Route number (numbered k)) o r.is.world tt steps) routed.now;
        tried = one_tried s.partitions k r.asked.routes routed.route lt r.tried routed.ready;
      })

  routes_all : (u : State) → Routed 0 u → GoesTo (λ done. Routed s.partitions) (RoutesAll number u)
  routes_all u r =
      each_from_to (λ k done. Routed k) (RoutesOne number) 0 u.setup.partitions tt s.partitions u
      (none_before u.setup.partitions s.partitions (ap (λ (x : Setup). x.partitions) r.is.world.setup)) r (λ k done x lt l. routes_one k x lt l)

  -- ---- each piece is asked for

  abbrev those : ℕ → List Instance
  those k = replicas_of (numbered k) s.table.replication s.servers

  -- of the partitions before one all is asked, and of those behind it nothing
  record Around (k m : ℕ) (routes : List Route) : Type 0 where
    before : (j : ℕ) (route : Route) → j < k → slice_get routes j ≡ Some route → is_route_settled (those j) route ≡ true
    behind : (j : ℕ) (route : Route) → m ≤ j → slice_get routes j ≡ Some route → IsReady j route

  -- those before this one are asked, and the others aren't
  record Asked (k : ℕ) (u : State) : Type 0 where
    asked : Asking
    is : IsThere s number u asked
    around : Around k k asked.routes

  -- these pieces of a partition are left, while it is asked
  record Left (k : ℕ) (rest : List Piece) (u : State) : Type 0 where
    asked : Asking
    is : IsThere s number u asked
    pieces : List PieceAsked
    at : slice_get asked.routes k ≡ Some (Planned pieces)
    rise : Rise (numbered k) 0 (pieces_in pieces)
    left : IsLeft (those k) rest pieces
    around : Around k (k + 1) asked.routes

  -- a piece that was asked for at the first replicas, and wasn't served, or was
  abbrev AskedSo : ℕ → ℕ → Bool → List PieceAnswer → Type 0
  AskedSo k n true answers = is_some (served_in answers) ≡ true
  AskedSo k n false answers = (served_in answers ≡ None) × AskedUpTo (numbered k) s.table.replication s.servers n answers

  record AtPiece (k : ℕ) (y : Piece) (rest : List Piece) (n : ℕ) (served : Bool) (u : State) : Type 0 where
    asked : Asking
    is : IsThere s number u asked
    pieces : List PieceAsked
    at : slice_get asked.routes k ≡ Some (Planned pieces)
    rise : Rise (numbered k) 0 (pieces_in pieces)
    answers : List PieceAnswer
    asks : IsAsking (those k) y answers rest pieces
    own : y.partition ≡ numbered k
    so : AskedSo k n served answers
    around : Around k (k + 1) asked.routes

  begins_piece : (k : ℕ) (y : Piece) (rest : List Piece) (u : State) → Left k (y ∷ rest) u → AtPiece k y rest 0 false u
  begins_piece k y rest u l = record {
    asked = l.asked;
    is = l.is;
    pieces = l.pieces;
    at = l.at;
    rise = l.rise;
    answers = [];
    asks = begins (those k) y rest (numbered k) 0 l.pieces l.rise l.left;
    own = (left_above (those k) y rest (numbered k) 0 l.pieces l.rise l.left).1;
    so = (refl, none_asked (numbered k) s.table.replication s.servers);
    around = l.around;
  }

  -- it is settled in the end
  settled_so : (k : ℕ) (y : Piece) (served : Bool) (answers : List PieceAnswer) → AskedSo k s.table.replication served answers
      → is_settled (those k) (asked_so y answers) ≡ true
  settled_so k y true answers so = ap (λ b. b || list_all (was_asked answers) (those k)) so
  settled_so k y false answers so =
      ap (λ b. is_some (served_in answers) || b) (all_asked (numbered k) s.table.replication s.servers answers so.1) ∙ or_true (is_some (served_in answers))
    where
      or_true : (b : Bool) → (b || true) ≡ true
      or_true true = refl
      or_true false = refl

  ends_piece : (k : ℕ) (y : Piece) (rest : List Piece) (served : Bool) (u : State) → AtPiece k y rest s.table.replication served u → Left k rest u
  ends_piece k y rest served u a = record {
    asked = a.asked;
    is = a.is;
    pieces = a.pieces;
    at = a.at;
    rise = a.rise;
    left = asked_ends (those k) y rest a.answers a.pieces a.asks (settled_so k y served a.answers a.so);
    around = a.around;
  }

  -- ---- one replica is asked

  module _ (is : IsSetup s) (k : ℕ) (within : k < s.partitions) (y : Piece) (rest : List Piece) (n : ℕ) (few : n < s.table.replication) (u : State)
      (a : AtPiece k y rest n false u) where
    abbrev p : Partition
    p = numbered k

    abbrev its_server : Instance
    its_server = replica_of p s.table.replication s.servers n

    -- the piece is found in the plan
    planned : plan_at a.asked p ≡ a.pieces
    planned = ap plan_in a.at

    found : asked_for y.sequence (plan_at a.asked p) ≡ Some (asked_so y a.answers)
    found = ap (asked_for y.sequence) planned ∙ found_asked (those k) y rest a.answers a.pieces a.asks

    assigned : assigned_at a.asked p ≡ those k
    assigned = ap (λ (r : ℕ). replicas_of p r a.asked.servers) a.is.replication ∙ ap (λ (m : ℕ). replicas_of p s.table.replication m) a.is.servers

    piece_due : is_piece_due a.asked p y.sequence its_server ≡ true
    piece_due =
        ap (λ (is : List Instance). is_due_of is (asked_for y.sequence (plan_at a.asked p)) its_server) assigned
        ∙ ap (λ (o : Option PieceAsked). is_due_of (those k) o its_server) found
        ∙ ap (λ b. not b && is_one_of (those k) its_server && not (was_asked a.answers its_server)) (ap (λ o. is_some o) a.so.0)
        ∙ ap (λ b. b && not (was_asked a.answers its_server)) (is_assigned p s.table.replication s.servers n few)
        ∙ ap not (a.so.1.others n (omega arith) few)

    abbrev event_of : Event
    event_of = event.Piece number p y.sequence its_server

    has_both : (has_server u its_server && has_partition u p) ≡ true
    has_both =
        ap (λ b. b && has_partition u p)
        (lt-ltb its_server.0 (length u.servers)
        (omega (arith, mod_below (p.0 * s.table.replication + n) s.servers (omega (arith, is.enough_servers, is.some_replicas)), a.is.world.safe.safe.all_servers, same_servers)))
        ∙ lt-ltb k u.setup.partitions (subst (λ (x : Setup). k < x.partitions) (sym a.is.world.setup) within)
      where
        same_servers : u.setup.servers ≡ s.servers
        same_servers = ap (λ (x : Setup). x.servers) a.is.world.setup

    piece_goes : Only IsLimit (due_of u event_of)
    piece_goes =
        only_dropped IsLimit (only_if (has_server u its_server && has_partition u p) NoSuchNode (piece_by u p y.sequence its_server (query_at u number)))
        (only_met IsLimit (has_server u its_server && has_partition u p) NoSuchNode (piece_by u p y.sequence its_server (query_at u number)) has_both
        (subst (λ (o : Option Asking). Only IsLimit (piece_by u p y.sequence its_server o)) (sym a.is.there)
        (only_met IsLimit (is_piece_due a.asked p y.sequence its_server) NothingToDo (priced u no_cost) piece_due (only_priced u no_cost))))

    -- what is noted of its answer
    abbrev more : PieceGot → Asking
    more what = with_route a.asked p (Planned (with_answer y.sequence (record { from = its_server; got = what }) (plan_at a.asked p)))

    record IsNoted (v : State) (o : Outcome) : Type 0 where
      what : PieceGot
      told : o ≡ piece_outcome what
      now : query_at v number ≡ Some (more what)

    piece_step : (v : State) (o : Outcome) → Steps u event_of v (Ok o) → IsNoted v o
    piece_step v o steps =
        by_piece (piece_at a.asked p y.sequence) (ap (option_map (λ (x : PieceAsked). x.piece)) found) (slice_get u.servers its_server.0)
        (subst (λ (x : Option Asking). PiecesAt x u number p y.sequence its_server steps.0 (v, o)) a.is.there steps.2)
      where
        by_piece : (f : Option Piece) → f ≡ Some y → (m : Option ServerNode) → PiecesOf f m a.asked u number its_server steps.0 (v, o) → IsNoted v o
        by_piece None e m h = absurd h
        by_piece (Some z) e None h = absurd h
        by_piece (Some z) e (Some m) (b, what, gives, notes, is) =
            let same : z ≡ y = same_Some z y e in
            let noted_so : noted a.asked z its_server what ≡ more what =
            ap (λ (x : Piece). noted a.asked x its_server what) same
            ∙ ap (λ (q : Partition). with_route a.asked q (Planned (with_answer y.sequence (record { from = its_server; got = what }) (plan_at a.asked q)))) a.own in
            record {
              what = what;
              told = ap (λ (x : Next). x.1) is;
              now =
                  put_back u v number a.asked b a.is.there (ap (λ (x : Next). x.0.queries) is)
                  ∙ ap (λ (x : Asking). some_asking x) (notes.1 ∙ noted_so);
            }
          where
            some_asking : Asking → Option Asking
            some_asking x = Some x

    -- the piece is served, or one replica more was asked
    asked_so_far : (what : PieceGot) → AskedSo k (n + 1) (is_served (piece_outcome what)) (a.answers ++ record { from = its_server; got = what } ∷ [])
    asked_so_far (got.Served served) = ap (λ o. is_some o) (served_more a.answers (record { from = its_server; got = got.Served served }) a.so.0)
    asked_so_far got.NotServed = (
      served_more a.answers (record { from = its_server; got = got.NotServed }) a.so.0,
      one_asked p s.table.replication s.servers is.some_replicas is.enough_servers n a.answers (record { from = its_server; got = got.NotServed }) refl a.so.1,
    )
    asked_so_far got.Down = (
      served_more a.answers (record { from = its_server; got = got.Down }) a.so.0,
      one_asked p s.table.replication s.servers is.some_replicas is.enough_servers n a.answers (record { from = its_server; got = got.Down }) refl a.so.1,
    )

    asks_more : (v : State) (o : Outcome) → Steps u event_of v (Ok o) → AtPiece k y rest (n + 1) (is_served o) v
    asks_more v o steps =
        let t = piece_step v o steps in
        let answer : PieceAnswer = record { from = its_server; got = t.what } in
        let now = with_answer y.sequence answer (plan_at a.asked p) in
        let same : now ≡ with_answer y.sequence answer a.pieces = ap (with_answer y.sequence answer) planned in
        record {
          asked = more t.what;
          is = is_there s number v (more t.what) (then_in s u v event_of o a.is.world tt steps) t.now;
          pieces = with_answer y.sequence answer a.pieces;
          at = own_slot a.asked.routes k (Planned a.pieces) (Planned now) a.at ∙ ap (λ (xs : List PieceAsked). some_route (Planned xs)) same;
          rise = subst (Rise p 0) (sym (pieces_stay y.sequence answer a.pieces)) a.rise;
          answers = a.answers ++ answer ∷ [];
          asks = asks_on (those k) y rest a.answers answer a.pieces a.asks;
          own = a.own;
          so = subst (λ (x : Outcome). AskedSo k (n + 1) (is_served x) (a.answers ++ answer ∷ [])) (sym t.told) (asked_so_far t.what);
          around =
              record {
                before = λ j route lt at. a.around.before j route lt (other_route (Planned now) j route (λ same. absurd (omega (arith, lt, same))) at);
                behind = λ j route le at. a.around.behind j route le (other_route (Planned now) j route (λ same. absurd (omega (arith, le, same))) at);
              };
        }
      where
        other_route : (new : Route) (j : ℕ) (route : Route) → (j ≡ k → ⊥) → slice_get (slice_set a.asked.routes k new) j ≡ Some route
            → slice_get a.asked.routes j ≡ Some route
        other_route new j route apart at = by_place (got_of_set a.asked.routes k j new route at)
          where
            by_place : ((j ≡ k) × (route ≡ new)) ⊎ (slice_get a.asked.routes j ≡ Some route) → slice_get a.asked.routes j ≡ Some route
            by_place (inl x) = absurd (apart x.0)
            by_place (inr old) = old

  asks_one : (is : IsSetup s) (k : ℕ) (within : k < s.partitions) (y : Piece) (rest : List Piece) (n : ℕ) (few : n < s.table.replication) (served : Bool) (u : State)
      → AtPiece k y rest n served u → GoesTo (AtPiece k y rest (n + 1)) (AsksOne number y n served u)
  asks_one is k within y rest n few true u a = gives_to (AtPiece k y rest (n + 1)) true u (served_on a)
    where
      served_on : AtPiece k y rest n true u → AtPiece k y rest (n + 1) true u
      served_on a = record {
        asked = a.asked;
        is = a.is;
        pieces = a.pieces;
        at = a.at;
        rise = a.rise;
        answers = a.answers;
        asks = a.asks;
        own = a.own;
        so = a.so;
        around = a.around;
      }
  asks_one is k within y rest n few false u a =
      subst (λ (i : Instance). GoesTo (AtPiece k y rest (n + 1)) (Then (Happens (event.Piece number y.partition y.sequence i)) TellsServed u)) (sym server)
      (subst (λ (q : Partition). GoesTo (AtPiece k y rest (n + 1)) (Then (Happens (event.Piece number q y.sequence (its_server is k within y rest n few u a))) TellsServed u)) (sym a.own)
      (then_to (λ o v. AtPiece k y rest (n + 1) (is_served o) v) (AtPiece k y rest (n + 1)) (Happens (event_of is k within y rest n few u a)) TellsServed u
      (happens_to (λ o v. AtPiece k y rest (n + 1) (is_served o) v) (event_of is k within y rest n few u a) u (piece_goes is k within y rest n few u a)
      (λ v o steps. asks_more is k within y rest n few u a v o steps))
      (λ o v b. gives_to (AtPiece k y rest (n + 1)) (is_served o) v b)))
    where
      server : replica_of y.partition u.setup.table.replication u.setup.servers n ≡ replica_of (numbered k) s.table.replication s.servers n
      server =
          ap (λ (q : Partition). replica_of q u.setup.table.replication u.setup.servers n) a.own
          ∙ ap (λ (x : Setup). replica_of (numbered k) x.table.replication x.servers n) a.is.world.setup

  asks_piece : IsSetup s → (k : ℕ) → k < s.partitions → (y : Piece) (rest : List Piece) (u : State) → Left k (y ∷ rest) u
      → GoesTo (λ done. Left k rest) (AsksPiece number y tt u)
  asks_piece is k within y rest u l =
      then_to (AtPiece k y rest s.table.replication) (λ done. Left k rest) (AsksReplicas number y) (λ served. Gives tt) u
      (each_from_to (AtPiece k y rest) (AsksOne number y) 0 u.setup.table.replication false s.table.replication u
      (none_before u.setup.table.replication s.table.replication (ap (λ (x : Setup). x.table.replication) l.is.world.setup)) (begins_piece k y rest u l) (λ n served x lt b. asks_one is k within y rest n lt served x b))
      (λ served v b. gives_to (λ done. Left k rest) tt v (ends_piece k y rest served v b))

  -- ---- one partition is asked

  asked_next : (k : ℕ) (u : State) → Left k [] u → Asked (k + 1) u
  asked_next k u l = record {
    asked = l.asked;
    is = l.is;
    around = record { before = λ j route lt at. by_place j route at (cases_lt j k) lt; behind = l.around.behind };
  }
    where
      by_place : (j : ℕ) (route : Route) → slice_get l.asked.routes j ≡ Some route → (j < k) ⊎ (k ≤ j) → j < k + 1 → is_route_settled (those j) route ≡ true
      by_place j route at (inl less) lt = l.around.before j route less at
      by_place j route at (inr le) lt =
          let same : k ≡ j = omega (arith, lt, le) in
          let is : Planned l.pieces ≡ route = same_Some (Planned l.pieces) route (sym l.at ∙ ap (slice_get l.asked.routes) same ∙ at) in
          subst (λ (n : ℕ). is_route_settled (those n) route ≡ true) same
          (ap (is_route_settled (those k)) (sym is) ∙ none_left (those k) l.pieces l.left)

  failed_next : (k : ℕ) (u : State) (a : Asked k u) → slice_get a.asked.routes k ≡ Some Failed → Asked (k + 1) u
  failed_next k u a failed = record {
    asked = a.asked;
    is = a.is;
    around = record {
      before = λ j route lt at. by_place j route at (cases_lt j k) lt;
      behind = λ j route le at. a.around.behind j route (omega (arith, le)) at;
    };
  }
    where
      by_place : (j : ℕ) (route : Route) → slice_get a.asked.routes j ≡ Some route → (j < k) ⊎ (k ≤ j) → j < k + 1 → is_route_settled (those j) route ≡ true
      by_place j route at (inl less) lt = a.around.before j route less at
      by_place j route at (inr le) lt =
          let same : k ≡ j = omega (arith, lt, le) in
          let is : Failed ≡ route = same_Some Failed route (sym failed ∙ ap (slice_get a.asked.routes) same ∙ at) in
          ap (is_route_settled (those j)) (sym is)

  route_there : {X : Type 0} (xs : List X) (k : ℕ) → k < length xs → (x : X) × (slice_get xs k ≡ Some x)
  route_there [] k lt = absurd (omega (arith, lt))
  route_there (x ∷ xs) zero lt = (x, refl)
  route_there (x ∷ xs) (suc k) lt = route_there xs k (omega (arith, lt))

  asks_partition : IsSetup s → (k : ℕ) → k < s.partitions → (u : State) → Asked k u → GoesTo (λ done. Asked (k + 1)) (AsksPartition number k tt u)
  asks_partition is k within u a =
      subst (λ (o : Option Asking). GoesTo (λ done. Asked (k + 1)) (Each (AsksPiece number) (pieces_by o (numbered k)) tt u)) (sym a.is.there)
      (by_route (route_there a.asked.routes k (omega (arith, within, a.is.count))))
    where
      ends_at : (k : ℕ) (r : Result (Unit {0}) Refusal) (v : State) → Ends (λ done. Left k []) v r → Ends (λ done. Asked (k + 1)) v r
      ends_at k (Ok done) v l = asked_next k v l
      ends_at k (Err refusal) v l = l

      by_route : (r : Route) × (slice_get a.asked.routes k ≡ Some r) → GoesTo (λ done. Asked (k + 1)) (Each (AsksPiece number) (pieces_in (plan_at a.asked (numbered k))) tt u)
      by_route (Untried, at) = absurd (a.around.behind k Untried (omega arith) at)
      by_route (Failed, at) =
          subst (λ (xs : List PieceAsked). GoesTo (λ done. Asked (k + 1)) (Each (AsksPiece number) (pieces_in xs) tt u)) (sym (ap plan_in at))
          (gives_to (λ done. Asked (k + 1)) tt u (failed_next k u a at))
      by_route (Planned xs, at) =
          let ready = a.around.behind k (Planned xs) (omega arith) at in
          subst (λ (zs : List PieceAsked). GoesTo (λ done. Asked (k + 1)) (Each (AsksPiece number) (pieces_in zs) tt u)) (sym (ap plan_in at))
          (λ v r h.
          ends_at k r v.world
          (each_left_to (Left k) (AsksPiece number) (pieces_in xs) tt u
          (record {
            asked = a.asked;
            is = a.is;
            pieces = xs;
            at = at;
            rise = ready.0;
            left = all_left (those k) xs ready.1;
            around = record { before = a.around.before; behind = λ j route le at. a.around.behind j route (omega (arith, le)) at };
          })
          (λ y rest done x l. asks_piece is k within y rest x l) v r h))

  asks_all : IsSetup s → (u : State) → Asked 0 u → GoesTo (λ done. Asked s.partitions) (AsksAll number u)
  asks_all is u a =
      each_from_to (λ k done. Asked k) (AsksPartition number) 0 u.setup.partitions tt s.partitions u
      (none_before u.setup.partitions s.partitions (ap (λ (x : Setup). x.partitions) a.is.world.setup)) a (λ k done x lt b. asks_partition is k lt x b)

  -- ---- it is answered

  all_settled : (a : Asking) (routes : List Route) (from : ℕ)
      → ((j : ℕ) (route : Route) → slice_get routes j ≡ Some route → is_route_settled (assigned_at a (numbered (from + j))) route ≡ true)
      → are_settled a from routes ≡ true
  all_settled a [] from f = refl
  all_settled a (route ∷ routes) from f =
      let here : from + 0 ≡ from = omega arith in
      ap (λ b. b && are_settled a (from + 1) routes)
      (subst (λ (n : ℕ). is_route_settled (assigned_at a (numbered n)) route ≡ true) here (f 0 route refl))
      ∙ all_settled a routes (from + 1)
      (λ j other at.
      let there : from + suc j ≡ (from + 1) + j = omega arith in
      subst (λ (n : ℕ). is_route_settled (assigned_at a (numbered n)) other ≡ true) there (f (suc j) other at))

  answer_is_due : (u : State) (a : Asked s.partitions u) → is_answer_due a.asked ≡ true
  answer_is_due u a =
      all_settled a.asked a.asked.routes 0
      (λ j route at.
      ap (λ (is : List Instance). is_route_settled is route) (assigned_to j)
      ∙ a.around.before j route (omega (arith, slice_get_within a.asked.routes j route at, a.is.count)) at)
    where
      assigned_to : (j : ℕ) → assigned_at a.asked (numbered (0 + j)) ≡ those j
      assigned_to j =
          let same : 0 + j ≡ j = omega arith in
          ap (λ (n : ℕ). replicas_of (numbered n) a.asked.replication a.asked.servers) same
          ∙ ap (λ (r : ℕ). replicas_of (numbered j) r a.asked.servers) a.is.replication ∙ ap (λ (m : ℕ). replicas_of (numbered j) s.table.replication m) a.is.servers

  abbrev Answers : Answer → State → Type 0
  Answers answer u = IsIn s u

  gives_some : (o : Outcome) (v : State) → IsIn s v → (answer : Answer) × (o ≡ came.Answered answer) → GoesTo Answers (GivesAnswer (answer_in o) v)
  gives_some o v k (answer, told) =
      subst (λ (x : Outcome). GoesTo Answers (GivesAnswer (answer_in x) v)) (sym told) (gives_to Answers answer v k)

  answers_now : (u : State) → Asked s.partitions u → GoesTo Answers (AnswersNow number u)
  answers_now u a =
      then_to (λ o v. IsIn s v × ((answer : Answer) × (o ≡ came.Answered answer))) Answers (Happens (event.Answer number)) (λ outcome. GivesAnswer (answer_in outcome)) u
      (happens_to (λ o v. IsIn s v × ((answer : Answer) × (o ≡ came.Answered answer))) (event.Answer number) u answer_goes
      (λ v o steps. (then_in s u v (event.Answer number) o a.is.world tt steps, answered v o steps)))
      (λ o v k. gives_some o v k.0 k.1)
    where
      answer_goes : Only IsLimit (due_of u (event.Answer number))
      answer_goes =
          only_dropped IsLimit (answer_by u (query_at u number))
          (subst (λ (o : Option Asking). Only IsLimit (answer_by u o)) (sym a.is.there)
          (only_met IsLimit (is_answer_due a.asked) NothingToDo (priced u no_cost) (answer_is_due u a) (only_priced u no_cost)))

      answered : (v : State) (o : Outcome) → Steps u (event.Answer number) v (Ok o) → (answer : Answer) × (o ≡ came.Answered answer)
      answered v o steps =
          let h = subst (λ (x : Option Asking). AnswersAt x u number steps.0 (v, o)) a.is.there steps.2 in (h.0, ap (λ (x : Next). x.1) h.2)

  -- ---- a query

  after_asking : (u : State) → Routed 0 u → GoesTo Answers (AfterAsking number u)
  after_asking u r =
      then_to (λ done. Routed s.partitions) Answers (RoutesAll number) (λ done. AsksAndAnswers number) u (routes_all u r)
      (λ done v k.
      then_to (λ done. Asked s.partitions) Answers (AsksAll number) (λ done. AnswersNow number) v (asks_all (setup_is v k) v (all_tried v k)) (λ done x a. answers_now x a))
    where
      all_tried : (v : State) → Routed s.partitions v → Asked 0 v
      all_tried v k = record {
        asked = k.asked;
        is = k.is;
        around = record {
          before = λ j route lt at. absurd (omega (arith, lt));
          behind = λ j route le at. k.tried.tried j route (omega (arith, slice_get_within k.asked.routes j route at, k.is.count)) at;
        };
      }

      setup_is : (v : State) → Routed s.partitions v → IsSetup s
      setup_is v k = subst IsSetup k.is.world.setup k.is.world.safe.safe.setup

-- the query that is asked is there, and no partition was tried
asked_first : (w u : State) (query : Query) (o : Outcome) → IsSafeWorld w → IsQuery w.setup.schema query → Steps w (event.Ask query) u (Ok o)
    → (asked_in o ≡ Some (length w.queries)) × Routed w.setup (length w.queries) 0 u
asked_first w u query o safe fits (cost, due, is) =
    let a = asking query w.setup in
    let number = length w.queries in
    let there : query_at u number ≡ Some a =
    ap (λ (x : Next). query_in (slice_get x.0.queries number)) is ∙ ap query_in (slice_get-push w.queries (Some a)) in (
      ap (λ (x : Next). asked_in x.1) is,
      record {
        asked = a;
        is = is_there w.setup number u a (then_in w.setup w u (event.Ask query) o (record { safe = safe; setup = refl }) fits (cost, due, is)) there;
        tried = none_tried w.setup.partitions;
      },
    )

pub queries_to : (query : Query) (w : State) → IsSafeWorld w → IsQuery w.setup.schema query → GoesTo (λ answer u. IsIn w.setup u) (Queries query w)
queries_to query w safe fits =
    then_to (λ o u. (asked_in o ≡ Some (length w.queries)) × Routed w.setup (length w.queries) 0 u) (λ answer u. IsIn w.setup u) (Happens (event.Ask query))
    (λ outcome. ByNumber (asked_in outcome)) w
    (happens_to (λ o u. (asked_in o ≡ Some (length w.queries)) × Routed w.setup (length w.queries) 0 u) (event.Ask query) w
    (only_dropped IsLimit (priced w query_cost) (only_priced w query_cost)) (λ u o steps. asked_first w u query o safe fits steps))
    (λ o u k.
    subst (λ (n : Option ℕ). GoesTo (λ answer v. IsIn w.setup v) (ByNumber n u)) (sym k.0) (after_asking w.setup (length w.queries) u k.1))

pub query_refused : (query : Query) (w : State) (v : Reached) (refusal : Refusal) → IsSafeWorld w → IsQuery w.setup.schema query → Queries query w v (Err refusal)
    → IsLimit refusal
query_refused query w v refusal safe fits h = queries_to query w safe fits v (Err refusal) h
