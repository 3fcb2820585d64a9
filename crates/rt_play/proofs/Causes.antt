-- What an answer of a run misses has its cause in the run's earlier turns.
use Rattle.std.proofs.Common.{◌≡◌, ◌==◌, ◌⊎◌, inl, inr, ℕ, Bool, true, false, List, [], ◌∷◌, ◌++◌, length, map, Option, Some, None, Result, Ok, Err, refl, sym, ◌∙◌, ap, subst, slice_get, slice_set, if◌then◌else◌, append_assoc}
use Rattle.std.specs.Prelude.{option_map}
use Rattle.std.proofs.lemmas.Bool.{eqb-true}
use Rattle.std.proofs.lemmas.List.{append-nil}
use Rattle.std.proofs.lemmas.Option.{none-some, same_Some}
use Rattle.rt_assign.specs.Placement.{replicas_of}
use Rattle.rt_base.specs.Faults.{answer_under, fault_of}
use Rattle.rt_base.specs.declared.fault.Fault.{Fault}
use Rattle.rt_base.specs.declared.fault.Fault.TheVariants.{Nothing}
use Rattle.rt_base.specs.declared.numbers.Instance.{Instance}
use Rattle.rt_base.specs.declared.numbers.Partition.{Partition}
use Rattle.rt_base.specs.declared.numbers.Sequence.{Sequence}
use Rattle.rt_broker.proofs.Lasting.{got_of_replicate}
use Rattle.rt_broker.proofs.Rising.{one_of, plan_is_of}
use Rattle.rt_broker.proofs.Telling.{failed_now, routed_now}
use Rattle.rt_broker.specs.Answering.{IsMissing, IsRefusal, IsRefused, RefusedBy}
use Rattle.rt_broker.specs.Asking.{Asking, answered, asked_for, asking, piece_at, plan_at, plan_in, route_at, unasked, with_answer, with_route}
use Rattle.rt_broker.specs.Noting.{Notes}
use Rattle.rt_broker.specs.Routing.{Routes as broker_routes}
use Rattle.rt_broker.specs.declared.piece_asked.PieceAnswer.{PieceAnswer}
use Rattle.rt_broker.specs.declared.piece_asked.PieceAsked.{PieceAsked}
use Rattle.rt_broker.specs.declared.piece_got.PieceGot.{PieceGot}
use Rattle.rt_broker.specs.declared.refused.BrokerRefused.{BrokerRefused}
use Rattle.rt_broker.specs.declared.refused.BrokerRefused.TheVariants as broker
use Rattle.rt_broker.specs.declared.route.Route.{Route}
use Rattle.rt_broker.specs.declared.route.Route.TheVariants.{Failed, Planned, Untried}
use Rattle.rt_events.specs.declared.event.Event.{Event}
use Rattle.rt_events.specs.declared.event.Event.TheVariants as event
use Rattle.rt_events.specs.declared.outcome.Outcome.{Outcome}
use Rattle.rt_events.specs.declared.outcome.Outcome.TheVariants as told
use Rattle.rt_lists.proofs.Members.{Has-map, Has-push_cases}
use Rattle.rt_lists.specs.Members.{Has}
use Rattle.rt_model.specs.Metadata.{metadata_of}
use Rattle.rt_model.specs.Plan.{plan_of}
use Rattle.rt_model.specs.Setup.{IsSetup}
use Rattle.rt_model.specs.declared.node.Listed.{Listed}
use Rattle.rt_model.specs.declared.piece.Piece.{Piece}
use Rattle.rt_model.specs.declared.query.Query.{Query}
use Rattle.rt_model.specs.declared.setup.Setup.{Setup}
use Rattle.rt_nodes.specs.Queries.{Gives, piece_outcome, routed_by}
use Rattle.rt_nodes.specs.declared.server_node.ServerNode.{ServerNode}
use Rattle.rt_play.proofs.Leading.{leads_then}
use Rattle.rt_play.proofs.Misses.{told_refusal}
use Rattle.rt_play.specs.Causes.{Happened, IsCaused, MissesForCause, RefusesBy, WasMissed, WasPlanned, WasRefused, WasUnrouted}
use Rattle.rt_safety.proofs.Answering.{answers_right}
use Rattle.rt_safety.proofs.Later.{leads_on, runs_are_safe}
use Rattle.rt_safety.proofs.Produced.{quiet_leaves}
use Rattle.rt_safety.specs.IsAnswered.{IsAnswered}
use Rattle.rt_safety.specs.Runs.{Leads, Runs, Turn, TurnsTo, happens, passes}
use Rattle.rt_state.specs.Applying.{Next}
use Rattle.rt_state.specs.Finding.{query_at}
use Rattle.rt_state.specs.Places.{AreAt}
use Rattle.rt_state.specs.Queries.{AnswersAt, PiecesAt, PiecesOf, RoutesAt}
use Rattle.rt_state.specs.Start.{start}
use Rattle.rt_state.specs.declared.state.State.{State}
use Rattle.rt_store.specs.Meaning.{Told}
use Rattle.rt_store.specs.Memory.{means}
use Rattle.rt_store.specs.declared.refused.StoreRefused.{StoreRefused}
use Rattle.rt_store.specs.declared.refused.StoreRefused.TheVariants as store_refused
use Rattle.rt_world.proofs.KeepsQueries.{query_there}
use Rattle.rt_world.proofs.Places.{at_none, at_push, at_set, at_weaker}
use Rattle.rt_world.proofs.StartSafe.{start_safe}

-- ---- what was noted of a query came of earlier turns

-- the piece was planned, and each server that is noted to have refused it did so
record IsPieceCaused (setup : Setup) (turns : List Turn) (w : State) (q : ℕ) (p : Partition) (x : PieceAsked) : Type 0 where
  planned : WasPlanned setup turns w q p x.piece
  refused : (y : PieceAnswer) → Has x.answers y → IsRefusal y.got → WasRefused setup turns w q p x.piece y.from

abbrev AreCausedPieces : Setup → List Turn → State → ℕ → Partition → List PieceAsked → Type 0
AreCausedPieces setup turns w q p xs = (x : PieceAsked) → Has xs x → IsPieceCaused setup turns w q p x

abbrev IsRouteCaused : Setup → List Turn → State → ℕ → Partition → Route → Type 0
IsRouteCaused setup turns w q p Untried = Unit {0}
IsRouteCaused setup turns w q p Failed = WasUnrouted setup turns w q p
IsRouteCaused setup turns w q p (Planned xs) = AreCausedPieces setup turns w q p xs

abbrev numbered : ℕ → Partition
numbered n = record { 0 = n }

abbrev IsRouteAt : Setup → List Turn → State → ℕ → ℕ → Route → Type 0
IsRouteAt setup turns w q n route = IsRouteCaused setup turns w q (numbered n) route

abbrev IsQueryCaused : Setup → List Turn → State → ℕ → Option Asking → Type 0
IsQueryCaused setup turns w q None = Unit {0}
IsQueryCaused setup turns w q (Some a) = AreAt (IsRouteAt setup turns w q) a.routes

-- so it is of every query of a world
abbrev AreCaused : Setup → List Turn → State → Type 0
AreCaused setup turns w = AreAt (IsQueryCaused setup turns w) w.queries

-- ---- a turn more

module _ (setup : Setup) (turns : List Turn) (w : State) (turn : Turn) (v : State) (t : TurnsTo w turn v) where
  abbrev more : List Turn
  more = turns ++ turn ∷ []

  happened_more : (e : Event) (o : Outcome) (u : State) → Happened setup turns w e o u → Happened setup more v e o u
  happened_more e o u h = record {
    before = h.before;
    after = h.after ++ turn ∷ [];
    whole = ap (λ (ts : List Turn). ts ++ turn ∷ []) h.whole ∙ append_assoc h.before (happens e o ∷ h.after) (turn ∷ []);
    runs = h.runs;
    leads = leads_then (happens e o ∷ h.after) (turn ∷ []) u w v h.leads (v, t, refl);
  }

  piece_more : (q : ℕ) (p : Partition) (x : PieceAsked) → IsPieceCaused setup turns w q p x → IsPieceCaused setup more v q p x
  piece_more q p x k = record {
    planned =
        let h = k.planned in
        record { earlier = h.earlier; count = h.count; routed = happened_more _ _ h.earlier h.routed; planned = h.planned };
    refused =
        λ y has refusal.
        let h = k.refused y has refusal in
        record { earlier = h.earlier; outcome = h.outcome; asked = happened_more _ _ h.earlier h.asked; node = h.node; there = h.there; refuses = h.refuses };
  }

  route_more : (q n : ℕ) (route : Route) → IsRouteAt setup turns w q n route → IsRouteAt setup more v q n route
  route_more q n Untried k = tt
  route_more q n Failed k = record { earlier = k.earlier; failed = happened_more _ _ k.earlier k.failed; faulted = k.faulted }
  route_more q n (Planned xs) k = λ x has. piece_more q (numbered n) x (k x has)

  query_more : (q : ℕ) (o : Option Asking) → IsQueryCaused setup turns w q o → IsQueryCaused setup more v q o
  query_more q None k = tt
  query_more q (Some a) k = at_weaker (IsRouteAt setup turns w q) (IsRouteAt setup more v q) (route_more q) a.routes k

  queries_more : AreCaused setup turns w → AreAt (IsQueryCaused setup more v) w.queries
  queries_more k = at_weaker (IsQueryCaused setup turns w) (IsQueryCaused setup more v) query_more w.queries k

  -- no query changes
  none_put : AreCaused setup turns w → v.queries ≡ w.queries → AreCaused setup more v
  none_put k same = subst (AreAt (IsQueryCaused setup more v)) (sym same) (queries_more k)

  -- one is put back, or was answered
  one_put : AreCaused setup turns w → (q : ℕ) (o : Option Asking) → v.queries ≡ slice_set w.queries q o → IsQueryCaused setup more v q o → AreCaused setup more v
  one_put k q o same here =
      subst (AreAt (IsQueryCaused setup more v)) (sym same) (at_set (IsQueryCaused setup more v) w.queries q o here (queries_more k))

  -- of one a partition is put
  route_put : AreCaused setup turns w → (q : ℕ) (a b : Asking) (p : Partition) (route : Route) → query_at w q ≡ Some a → b ≡ with_route a p route
      → IsRouteCaused setup more v q p route → IsQueryCaused setup more v q (Some b)
  route_put k q a b p route there is here =
      subst (λ (c : Asking). IsQueryCaused setup more v q (Some c)) (sym is)
      (at_set (IsRouteAt setup more v q) a.routes p.0 route here (queries_more k q (Some a) (query_there w q a there)))

-- ---- an event

abbrev listed : List Listed → Result (List Listed) StoreRefused
listed nodes = Ok nodes

-- a listing fails only by a fault
fails_by : (nodes : List Listed) (fault : Fault) → answer_under store_refused.Failed fault (listed nodes) ≡ Err store_refused.Failed → fault ≡ Nothing → ⊥
fails_by nodes fault met none = not_failed (subst (λ (f : Fault). answer_under store_refused.Failed f (listed nodes) ≡ Err store_refused.Failed) none met)
  where
    not_failed : listed nodes ≡ Err store_refused.Failed → ⊥
    not_failed e = cc

abbrev sequence_of : ℕ → Sequence
sequence_of n = record { 0 = n }

-- the piece that is found is one of the plan, of this sequence
found_piece : (s : Sequence) (xs : List PieceAsked) (piece : Piece) → option_map (λ x. x.piece) (asked_for s xs) ≡ Some piece
    → (x : PieceAsked) × Has xs x × (x.piece ≡ piece) × (s ≡ piece.sequence)
found_piece s [] piece e = absurd (none-some piece e)
found_piece s (x ∷ xs) piece e = by_test (x.piece.sequence.0 == s.0) refl e (λ f. found_piece s xs piece f)
  where
    by_test : (b : Bool) → (x.piece.sequence.0 == s.0) ≡ b → option_map (λ z. z.piece) (if b then Some x else asked_for s xs) ≡ Some piece
        → (option_map (λ z. z.piece) (asked_for s xs) ≡ Some piece → (z : PieceAsked) × Has xs z × (z.piece ≡ piece) × (s ≡ piece.sequence))
        → (z : PieceAsked) × Has (x ∷ xs) z × (z.piece ≡ piece) × (s ≡ piece.sequence)
    by_test true test f further =
        let same : x.piece ≡ piece = same_Some x.piece piece f in
        let here : s ≡ x.piece.sequence = ap sequence_of (sym (eqb-true x.piece.sequence.0 s.0 test)) in
        (x, inl refl, same, here ∙ ap (λ (y : Piece). y.sequence) same)
    by_test false test f further = let r = further f in (r.0, inr r.1, r.2, r.3)

-- one answer more for the piece of a segment
module _ (setup : Setup) (turns : List Turn) (w : State) (q : ℕ) (p : Partition) (s : Sequence) (y : PieceAnswer) where
  answered_more : (x : PieceAsked) → IsPieceCaused setup turns w q p x → (IsRefusal y.got → WasRefused setup turns w q p x.piece y.from)
      → IsPieceCaused setup turns w q p (answered x y)
  answered_more x k new = record { planned = k.planned; refused = λ z has. by_place z (Has-push_cases x.answers y z has) }
    where
      by_place : (z : PieceAnswer) → Has x.answers z ⊎ (y ≡ z) → IsRefusal z.got → WasRefused setup turns w q p x.piece z.from
      by_place z (inl has) = k.refused z has
      by_place z (inr same) = subst (λ (a : PieceAnswer). IsRefusal a.got → WasRefused setup turns w q p x.piece a.from) same new

  plan_more : (xs : List PieceAsked) (piece : Piece) → AreCausedPieces setup turns w q p xs → option_map (λ x. x.piece) (asked_for s xs) ≡ Some piece
      → (IsRefusal y.got → WasRefused setup turns w q p piece y.from) → AreCausedPieces setup turns w q p (with_answer s y xs)
  plan_more [] piece k e new = λ z has. absurd has
  plan_more (x ∷ xs) piece k e new =
      by_test (x.piece.sequence.0 == s.0) e (λ f. plan_more xs piece (λ z has. k z (inr has)) f new)
    where
      by_test : (b : Bool) → option_map (λ z. z.piece) (if b then Some x else asked_for s xs) ≡ Some piece
          → (option_map (λ z. z.piece) (asked_for s xs) ≡ Some piece → AreCausedPieces setup turns w q p (with_answer s y xs))
          → AreCausedPieces setup turns w q p (if b then answered x y ∷ xs else x ∷ with_answer s y xs)
      by_test true f further = λ z has. by_place z has
        where
          here : IsPieceCaused setup turns w q p (answered x y)
          here =
              answered_more x (k x (inl refl))
              (subst (λ (a : Piece). IsRefusal y.got → WasRefused setup turns w q p a y.from) (sym (same_Some x.piece piece f)) new)

          by_place : (z : PieceAsked) → (answered x y ≡ z) ⊎ Has xs z → IsPieceCaused setup turns w q p z
          by_place z (inl same) = subst (IsPieceCaused setup turns w q p) same here
          by_place z (inr has) = k z (inr has)
      by_test false f further = λ z has. by_place z has
        where
          by_place : (z : PieceAsked) → (x ≡ z) ⊎ Has (with_answer s y xs) z → IsPieceCaused setup turns w q p z
          by_place z (inl same) = k z (inl same)
          by_place z (inr has) = further f z has

module _ (setup : Setup) (turns : List Turn) (w : State) (o : Outcome) (v : State) (runs : Runs setup turns w) (k : AreCaused setup turns w) where
  abbrev Grown : Event → Type 0
  Grown e = AreCaused setup (turns ++ happens e o ∷ []) v

  abbrev Turns : Event → Type 0
  Turns e = TurnsTo w (happens e o) v

  happened : (e : Event) → Turns e → Happened setup (turns ++ happens e o ∷ []) v e o w
  happened e t = record { before = turns; after = []; whole = refl; runs = runs; leads = (v, t, refl) }

  -- ---- ask

  ask_causes : (query : Query) → Turns (event.Ask query) → Grown (event.Ask query)
  ask_causes query t =
      let more = turns ++ happens (event.Ask query) o ∷ [] in
      let P = IsQueryCaused setup more v in
      subst (AreAt P) (sym (ap (λ (z : Next). z.0.queries) t.1.2))
      (at_push P w.queries (Some (asking query w.setup))
      (λ i route at. subst (IsRouteAt setup more v (length w.queries) i) (got_of_replicate w.setup.partitions i Untried route at) tt)
      (queries_more setup turns w (happens (event.Ask query) o) v t k))

  -- ---- route

  module _ (q : ℕ) (p : Partition) (t : Turns (event.Route q p)) (a b : Asking) (store : Told) (there : query_at w q ≡ Some a) where
    abbrev routed_turns : List Turn
    routed_turns = turns ++ happens (event.Route q p) o ∷ []

    plan_causes : (count : ℕ) → told.Routed count ≡ o → AreCausedPieces setup routed_turns v q p (map unasked (plan_of p (metadata_of w.store.writes p)))
    plan_causes count is x has =
        let plan = plan_of p (metadata_of w.store.writes p) in
        let m = Has-map unasked plan x has in
        let e : Event = event.Route q p in
        subst (IsPieceCaused setup routed_turns v q p) m.2
        (record {
          planned = record {
            earlier = w;
            count = count;
            routed = subst (λ (z : Outcome). Happened setup routed_turns v e z w) (sym is) (happened e t);
            planned = m.1;
          };
          refused = λ y none. absurd none;
        })

    route_is : (answer : Result ℕ BrokerRefused) → broker_routes (means w.store) (means store) a p b answer → routed_by answer ≡ Some o
        → IsQueryCaused setup routed_turns v q (Some b)
    route_is (Ok count) r is =
        let plan = plan_of p (metadata_of w.store.writes p) in
        route_put setup turns w (happens (event.Route q p) o) v t k q a b p (Planned (map unasked plan)) there (routed_now w.store store a b p count r).noted
        (plan_causes count (same_Some (told.Routed count) o is))
    route_is (Err broker.NotDue) r is = absurd (none-some o is)
    route_is (Err broker.StoreFault) r is =
        let now = failed_now w.store store a b p r in
        let e : Event = event.Route q p in
        route_put setup turns w (happens e o) v t k q a b p Failed there now.noted
        (record {
          earlier = w;
          failed = subst (λ (z : Outcome). Happened setup routed_turns v e z w) (sym (same_Some told.Failed o is)) (happened e t);
          faulted = fails_by (metadata_of w.store.writes p) (fault_of w.store.faults.plan) now.met;
        })
    route_is (Err broker.Memory) r is = absurd (none-some o is)

  route_causes : (q : ℕ) (p : Partition) → Turns (event.Route q p) → Grown (event.Route q p)
  route_causes q p t = by_query (query_at w q) refl t.1.2
    where
      by_query : (a : Option Asking) → query_at w q ≡ a → RoutesAt a w q p t.1.0 (v, o) → Grown (event.Route q p)
      by_query None there h = absurd h
      by_query (Some a) there (b, store, answer, routes, is, leads) =
          one_put setup turns w (happens (event.Route q p) o) v t k q (Some b) (ap (λ (z : State). z.queries) leads)
          (route_is q p t a b store there answer routes is)

  -- ---- piece

  module _ (q : ℕ) (p : Partition) (s : Sequence) (i : Instance) (t : Turns (event.Piece q p s i)) (a : Asking) (there : query_at w q ≡ Some a) where
    abbrev asked_turns : List Turn
    asked_turns = turns ++ happens (event.Piece q p s i) o ∷ []

    was : IsQueryCaused setup asked_turns v q (Some a)
    was = queries_more setup turns w (happens (event.Piece q p s i) o) v t k q (Some a) (query_there w q a there)

    plan_was : (r : Partition) (route : Option Route) → route_at a r ≡ route → AreCausedPieces setup asked_turns v q r (plan_in route)
    plan_was r None at = λ x has. absurd has
    plan_was r (Some Untried) at = λ x has. absurd has
    plan_was r (Some Failed) at = λ x has. absurd has
    plan_was r (Some (Planned xs)) at = was r.0 (Planned xs) at

    -- the piece of the event is the one that is noted
    of_plan : (piece : Piece) → piece_at a p s ≡ Some piece → (p ≡ piece.partition) × (s ≡ piece.sequence)
    of_plan piece e =
        let f = found_piece s (plan_at a p) piece e in
        let planned = (plan_was p (route_at a p) refl f.0 f.1).planned in
        let plan = plan_of p (metadata_of planned.earlier.store.writes p) in
        let own = one_of p plan f.0.piece (plan_is_of p (metadata_of planned.earlier.store.writes p)) planned.planned in
        (sym own ∙ ap (λ (x : Piece). x.partition) f.2, f.3)

    refused_now : (piece : Piece) (n : ServerNode) (what : PieceGot) → slice_get w.servers i.0 ≡ Some n → piece_at a p s ≡ Some piece → Gives n piece a.query what
        → o ≡ piece_outcome what → IsRefusal what → WasRefused setup asked_turns v q piece.partition piece i
    refused_now piece n what stands e gives is refusal =
        let of = of_plan piece e in
        let own : event.Piece q p s i ≡ event.Piece q piece.partition piece.sequence i =
        ap (λ (r : Partition). event.Piece q r s i) of.0 ∙ ap (λ (z : Sequence). event.Piece q piece.partition z i) of.1 in
        record {
          earlier = w;
          outcome = o;
          asked = subst (λ (z : Event). Happened setup asked_turns v z o w) own (happened (event.Piece q p s i) t);
          node = n;
          there = stands;
          refuses = subst (λ (z : Outcome). RefusesBy z n piece) (sym is) (told_refusal n piece a.query what n.up refl gives refusal);
        }

    piece_is : (piece : Piece) (n : ServerNode) (b : Asking) (what : PieceGot) → slice_get w.servers i.0 ≡ Some n → piece_at a p s ≡ Some piece
        → Gives n piece a.query what → Notes a piece i what b (Ok tt) → o ≡ piece_outcome what → IsQueryCaused setup asked_turns v q (Some b)
    piece_is piece n b what stands e gives notes is =
        let r = piece.partition in
        let y : PieceAnswer = record { from = i; got = what } in
        route_put setup turns w (happens (event.Piece q p s i) o) v t k q a b r (Planned (with_answer piece.sequence y (plan_at a r))) there notes.1
        (plan_more setup asked_turns v q r piece.sequence y (plan_at a r) piece (plan_was r (route_at a r) refl) notes.0.0
        (refused_now piece n what stands e gives is))

  piece_causes : (q : ℕ) (p : Partition) (s : Sequence) (i : Instance) → Turns (event.Piece q p s i) → Grown (event.Piece q p s i)
  piece_causes q p s i t = by_query (query_at w q) refl t.1.2
    where
      by_piece : (a : Asking) → query_at w q ≡ Some a → (piece : Option Piece) → piece_at a p s ≡ piece
          → (n : Option ServerNode) → slice_get w.servers i.0 ≡ n → PiecesOf piece n a w q i t.1.0 (v, o) → Grown (event.Piece q p s i)
      by_piece a there None e n stands h = absurd h
      by_piece a there (Some piece) e None stands h = absurd h
      by_piece a there (Some piece) e (Some n) stands (b, what, gives, notes, is) =
          one_put setup turns w (happens (event.Piece q p s i) o) v t k q (Some b) (ap (λ (z : Next). z.0.queries) is)
          (piece_is q p s i t a there piece n b what stands e gives notes (ap (λ (z : Next). z.1) is))

      by_query : (a : Option Asking) → query_at w q ≡ a → PiecesAt a w q p s i t.1.0 (v, o) → Grown (event.Piece q p s i)
      by_query None there h = absurd h
      by_query (Some a) there h = by_piece a there (piece_at a p s) refl (slice_get w.servers i.0) refl h

  -- ---- answer

  answer_causes : (q : ℕ) → Turns (event.Answer q) → Grown (event.Answer q)
  answer_causes q t = by_query (query_at w q) t.1.2
    where
      by_query : (a : Option Asking) → AnswersAt a w q t.1.0 (v, o) → Grown (event.Answer q)
      by_query None h = absurd h
      by_query (Some a) (answer, right, is) = one_put setup turns w (happens (event.Answer q) o) v t k q None (ap (λ (z : Next). z.0.queries) is) tt

  -- ---- any event

  event_causes : (e : Event) → Turns e → Grown e
  event_causes (event.Ask query) t = ask_causes query t
  event_causes (event.Route q p) t = route_causes q p t
  event_causes (event.Piece q p s i) t = piece_causes q p s i t
  event_causes (event.Answer q) t = answer_causes q t
  event_causes (event.Produce p message) t = none_put setup turns w (happens (event.Produce p message) o) v t k (ap (λ (z : Next). z.0.queries) t.1.2)
  event_causes e t = none_put setup turns w (happens e o) v t k (quiet_leaves w v e o tt t.1).1

-- ---- turns

turn_causes : (setup : Setup) (turns : List Turn) (w : State) (turn : Turn) (v : State) → Runs setup turns w → AreCaused setup turns w → TurnsTo w turn v
    → AreCaused setup (turns ++ turn ∷ []) v
turn_causes setup turns w (happens e o) v runs k t = event_causes setup turns w o v runs k e t
turn_causes setup turns w passes v runs k t = none_put setup turns w passes v t k (ap (λ (z : State). z.queries) t.2)

leads_cause : (setup : Setup) (before : List Turn) (w : State) (turns : List Turn) (v : State) → Runs setup before w → AreCaused setup before w → Leads w turns v
    → AreCaused setup (before ++ turns) v
leads_cause setup before w [] v runs k same =
    subst (AreCaused setup (before ++ [])) (sym same) (subst (λ (ts : List Turn). AreCaused setup ts w) (sym (append-nil before)) k)
leads_cause setup before w (turn ∷ turns) v runs k (next, t, rest) =
    subst (λ (ts : List Turn). AreCaused setup ts v) (append_assoc before (turn ∷ []) turns)
    (leads_cause setup (before ++ turn ∷ []) next turns v (leads_then before (turn ∷ []) (start setup) w next runs (next, t, refl))
    (turn_causes setup before w turn next runs k t) rest)

runs_cause : (setup : Setup) (turns : List Turn) (w : State) → Runs setup turns w → AreCaused setup turns w
runs_cause setup turns w runs = leads_cause setup [] (start setup) turns w refl (at_none (IsQueryCaused setup [] (start setup))) runs

-- ---- an answer

module _ (setup : Setup) (turns : List Turn) (w : State) (q : ℕ) (p : Partition) (a : Asking) (k : IsQueryCaused setup turns w q (Some a))
    (assigned : (i : Instance) → Has (replicas_of p setup.table.replication setup.servers) i → Has (replicas_of p a.replication a.servers) i) where
  refused_by : (x : PieceAsked) (i : Instance) → IsPieceCaused setup turns w q p x → RefusedBy x.answers i → WasRefused setup turns w q p x.piece i
  refused_by x i c (y, has, from, refusal) = subst (WasRefused setup turns w q p x.piece) from (c.refused y has refusal)

  piece_missed : (s : Sequence) (r : IsRefused a p s) (route : Option Route) → route_at a p ≡ route → Has (plan_in route) r.asked → WasMissed setup turns w q p s
  piece_missed s r None at has = absurd has
  piece_missed s r (Some Untried) at has = absurd has
  piece_missed s r (Some Failed) at has = absurd has
  piece_missed s r (Some (Planned xs)) at has =
      let c : IsPieceCaused setup turns w q p r.asked = k p.0 (Planned xs) at r.asked has in
      record {
        piece = r.asked.piece;
        planned = c.planned;
        sequence = r.sequence;
        refused = λ i is. refused_by r.asked i c (r.refused i (assigned i is));
      }

  caused_by : (s : Option Sequence) → IsMissing a p s → IsCaused setup turns w q p s
  caused_by None failed = k p.0 Failed failed
  caused_by (Some s) r = piece_missed s r (route_at a p) refl r.planned

pub run_misses : (setup : Setup) (turns : List Turn) (w : State) → IsSetup setup → Runs setup turns w → MissesForCause setup turns w
run_misses setup turns w is runs q answer next p s steps has =
    let a : IsAnswered w q answer = answers_right w next q answer (runs_are_safe setup turns w is runs) steps in
    let same : w.setup ≡ setup = (leads_on (start setup) turns w (start_safe setup is) runs).setup in
    let servers = a.assigned p ∙ ap (λ (x : Setup). replicas_of p x.table.replication x.servers) same in
    caused_by setup turns w q p a.asked (runs_cause setup turns w runs q (Some a.asked) (query_there w q a.asked a.there))
    (λ i one. subst (λ (js : List Instance). Has js i) (sym servers) one) s (a.missing p s has)
