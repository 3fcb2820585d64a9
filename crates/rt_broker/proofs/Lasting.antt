-- What lasts of a query, through its calls and as the past grows.
use Rattle.std.proofs.ByRecursion.{All-push}
use Rattle.std.proofs.Common.{◌≡◌, ℕ, zero, suc, ◌<◌, ◌==◌, Bool, true, false, ◌⊎◌, inl, inr, List, [], ◌∷◌, map, Option, Some, None, Result, Ok, Err, refl, sym, ap, subst, ◌∙◌, arith, slice_get, slice_set, if◌then◌else◌}
use Rattle.std.specs.Prelude.{option_map, IfErr, replicate}
use Rattle.std.proofs.lemmas.List.{length-replicate, length-set}
use Rattle.rt_base.specs.declared.numbers.Instance.{Instance}
use Rattle.rt_base.specs.declared.numbers.Partition.{Partition}
use Rattle.rt_base.specs.declared.numbers.Sequence.{Sequence}
use Rattle.rt_base.proofs.Planned.{without_fault}
use Rattle.rt_lists.specs.Members.{IsFront}
use Rattle.rt_lists.proofs.Members.{front_then}
use Rattle.rt_schema.specs.declared.row.Row.{Row}
use Rattle.rt_model.specs.declared.node.Listed.{Listed}
use Rattle.rt_model.specs.declared.node.Seen.{Seen}
use Rattle.rt_model.specs.declared.piece.Piece.{Piece}
use Rattle.rt_model.specs.declared.query.Query.{Query}
use Rattle.rt_model.specs.declared.setup.Setup.{Setup}
use Rattle.rt_model.specs.Aggregate.{taken}
use Rattle.rt_model.specs.Laws.{Begins}
use Rattle.rt_model.specs.Metadata.{metadata_of}
use Rattle.rt_model.specs.Plan.{plan_of}
use Rattle.rt_model.specs.Starting.{Starting, starting_contents}
use Rattle.rt_store.specs.declared.refused.StoreRefused.TheVariants as store
use Rattle.rt_store.specs.Answers.{listing}
use Rattle.rt_store.specs.Calls.{Lists}
use Rattle.rt_store.specs.Contents.{starting_of}
use Rattle.rt_store.specs.Meaning.{Meaning}
use Rattle.rt_store.proofs.Seeing.{same_ok}
use Rattle.rt_store.proofs.Told.{list_rose}
use Rattle.rt_agg.specs.declared.served.Served.{Served}
use Rattle.rt_agg.specs.Grouped.{Holds}
use Rattle.rt_past.specs.Past.{Past, Grows}
use Rattle.rt_past.proofs.Growth.{length_grows, rows_grow}
use Rattle.rt_broker.specs.declared.piece_asked.PieceAnswer.{PieceAnswer}
use Rattle.rt_broker.specs.declared.piece_asked.PieceAsked.{PieceAsked}
use Rattle.rt_broker.specs.declared.piece_got.PieceGot.{PieceGot}
use Rattle.rt_broker.specs.declared.piece_got.PieceGot.TheVariants as got
use Rattle.rt_broker.specs.declared.refused.BrokerRefused.{BrokerRefused}
use Rattle.rt_broker.specs.declared.refused.BrokerRefused.TheVariants.{NotDue, StoreFault, Memory}
use Rattle.rt_broker.specs.declared.route.Route.{Route}
use Rattle.rt_broker.specs.declared.route.Route.TheVariants.{Untried, Failed, Planned}
use Rattle.rt_broker.specs.Asking.{Asking, asking, unasked, asked_for, answered, with_answer, with_route, plan_at, plan_in, route_at}
use Rattle.rt_broker.specs.IsAsked.{IsRightServed, IsRightGot, Knows, AreKnownAnswers, AreKnownPieces, IsPlan, IsRoute, IsAskedKnowing, IsRightNoted, IsAsked}
use Rattle.rt_broker.specs.Noting.{Notes}
use Rattle.rt_broker.specs.Routing.{Routes}
use Rattle.rt_broker.proofs.Plans.{pieces_of_unasked, pieces_stay}

-- ---- the past grows

served_grows : (setup : Setup) (a b : Past) (query : Query) (piece : Piece) (served : Served) → Grows a b
    → IsRightServed setup a query piece served → IsRightServed setup b query piece served
served_grows setup a b query piece served g k =
    let rows = rows_grow setup.schema a.log b.log piece.partition served.range.start.0 served.range.end.0 g.log k.range.order k.within in
    record {
      range = k.range;
      within = omega (arith, k.within, length_grows a.log b.log piece.partition g.log);
      rows = subst (λ (rs : List Row). Holds query (taken query rs) served.groups) (sym rows) k.rows;
    }

got_grows : (setup : Setup) (a b : Past) (query : Query) (piece : Piece) (what : PieceGot) → Grows a b
    → IsRightGot setup a query piece what → IsRightGot setup b query piece what
got_grows setup a b query piece (got.Served served) g k = served_grows setup a b query piece served g k
got_grows setup a b query piece got.NotServed g k = tt
got_grows setup a b query piece got.Down g k = tt

-- what is known of each answer lasts as the history grows, and so does what follows from it
module _ (setup : Setup) (a b : Past) (knows follows : Knows) (front : IsFront a.history b.history)
    (each : (piece : Piece) (y : PieceAnswer) → knows piece y → follows piece y) where
  answers_known : (piece : Piece) (ys : List PieceAnswer) → AreKnownAnswers knows piece ys → AreKnownAnswers follows piece ys
  answers_known piece [] k = tt
  answers_known piece (y ∷ ys) k = (each piece y k.0, answers_known piece ys k.1)

  pieces_known : (xs : List PieceAsked) → AreKnownPieces knows xs → AreKnownPieces follows xs
  pieces_known [] k = tt
  pieces_known (x ∷ xs) k = (answers_known x.piece x.answers k.0, pieces_known xs k.1)

  route_follows : (p : Partition) (route : Route) → IsRoute setup a knows p route → IsRoute setup b follows p route
  route_follows p Untried k = tt
  route_follows p Failed k = tt
  route_follows p (Planned xs) k =
      record {
        seen = k.seen;
        begins = k.begins;
        front = front_then k.seen a.history b.history k.front front;
        plan = k.plan;
        known = pieces_known xs k.known;
      }

  pub asked_follows : (asked : Asking) → IsAskedKnowing setup a knows asked → IsAskedKnowing setup b follows asked
  asked_follows asked k =
      record {
        servers = k.servers;
        replication = k.replication;
        partitions = k.partitions;
        routes = λ p route at. route_follows p route (k.routes p route at);
      }

pub asked_grows : (setup : Setup) (a b : Past) (asked : Asking) → Grows a b → IsAsked setup a asked → IsAsked setup b asked
asked_grows setup a b asked g k =
    asked_follows setup a b (IsRightNoted setup a asked.query) (IsRightNoted setup b asked.query) g.history
    (λ piece y right. got_grows setup a b asked.query piece y.got g right) asked k

-- ---- one item of many

pub got_of_replicate : {X : Type 0} (n i : ℕ) (x y : X) → slice_get (replicate n x) i ≡ Some y → x ≡ y
got_of_replicate zero i x y e = absurd (cc)
got_of_replicate (suc n) zero x y e = cc
got_of_replicate (suc n) (suc i) x y e = got_of_replicate n i x y e

pub got_of_set : {X : Type 0} (xs : List X) (i j : ℕ) (x y : X) → slice_get (slice_set xs i x) j ≡ Some y → ((j ≡ i) × (y ≡ x)) ⊎ (slice_get xs j ≡ Some y)
got_of_set [] i j x y e = inr e
got_of_set (z ∷ xs) zero zero x y e = inl (refl, cc)
got_of_set (z ∷ xs) zero (suc j) x y e = inr e
got_of_set (z ∷ xs) (suc i) zero x y e = inr e
got_of_set (z ∷ xs) (suc i) (suc j) x y e = by_rest (got_of_set xs i j x y e)
  where
    by_rest : ((j ≡ i) × (y ≡ x)) ⊎ (slice_get xs j ≡ Some y) → ((suc j ≡ suc i) × (y ≡ x)) ⊎ (slice_get xs j ≡ Some y)
    by_rest (inl same) = inl (ap suc same.0, same.1)
    by_rest (inr other) = inr other

abbrev numbered : ℕ → Partition
numbered n = record { 0 = n }

-- what is so of each route is so where one more is set
pub each_route : (P : Partition → Route → Type 0) (routes : List Route) (p : Partition) (route : Route)
    → ((q : Partition) (other : Route) → slice_get routes q.0 ≡ Some other → P q other) → P p route
    → (q : Partition) (other : Route) → slice_get (slice_set routes p.0 route) q.0 ≡ Some other → P q other
each_route P routes p route each now q other at = by_place (got_of_set routes p.0 q.0 route other at)
  where
    by_place : ((q.0 ≡ p.0) × (other ≡ route)) ⊎ (slice_get routes q.0 ≡ Some other) → P q other
    by_place (inl same) =
        let here : p ≡ q = ap (λ (n : ℕ). numbered n) (sym same.0) in
        subst (P q) (sym same.1) (subst (λ t. P t route) here now)
    by_place (inr there) = each q other there

-- ---- what is known of pieces

module _ (knows : Knows) where
  pub unasked_known : (ps : List Piece) → AreKnownPieces knows (map unasked ps)
  unasked_known [] = tt
  unasked_known (p ∷ ps) = (tt, unasked_known ps)

  pub pieces_more : (s : Sequence) (y : PieceAnswer) (xs : List PieceAsked) (piece : Piece) → AreKnownPieces knows xs
      → option_map (λ x. x.piece) (asked_for s xs) ≡ Some piece → knows piece y → AreKnownPieces knows (with_answer s y xs)
  pieces_more s y [] piece k e f = tt
  pieces_more s y (x ∷ xs) piece k e f = by_test (x.piece.sequence.0 == s.0) e (λ g. pieces_more s y xs piece k.1 g f)
    where
      by_test : (b : Bool) → option_map (λ z. z.piece) (if b then Some x else asked_for s xs) ≡ Some piece
          → (option_map (λ z. z.piece) (asked_for s xs) ≡ Some piece → AreKnownPieces knows (with_answer s y xs))
          → AreKnownPieces knows (if b then answered x y ∷ xs else x ∷ with_answer s y xs)
      by_test true g further =
          let same : x.piece ≡ piece = cc in
          (All-push (knows x.piece) x.answers y k.0 (subst (λ q. knows q y) (sym same) f), k.1)
      by_test false g further = (k.0, further g)

-- what begins with the starting contents does so as it grows
begins_on : (s : Starting) (h k : List Seen) → Begins s h → IsFront h k → Begins s k
begins_on s h k b g = front_then (starting_contents s) h k b g

module _ (setup : Setup) (past : Past) (knows : Knows) where
  -- ---- a query begins

  pub asking_begins : (query : Query) → IsAskedKnowing setup past knows (asking query setup)
  asking_begins query =
      record {
        servers = refl;
        replication = refl;
        partitions = length-replicate setup.partitions Untried;
        routes = λ p route at. subst (IsRoute setup past knows p) (got_of_replicate setup.partitions p.0 Untried route at) tt;
      }

  -- ---- one partition is set

  asked_with : (a : Asking) (p : Partition) (route : Route) → IsAskedKnowing setup past knows a → IsRoute setup past knows p route
      → IsAskedKnowing setup past knows (with_route a p route)
  asked_with a p route k r =
      record {
        servers = k.servers;
        replication = k.replication;
        partitions = length-set a.routes p.0 route ∙ k.partitions;
        routes = each_route (IsRoute setup past knows) a.routes p route k.routes r;
      }

  planned_now : (old new : Meaning) (p : Partition) (nodes : List Listed) → Begins (starting_of setup) old.seen → IsFront new.seen past.history
      → Lists old new p (Ok nodes) → IsPlan setup past knows p (map unasked (plan_of p nodes))
  planned_now old new p nodes begins front c =
      let told = without_fault store.Failed c.fault (listing p c.base) (Ok nodes) c.base c.base new.seen (λ e. cc) c.goes.answered c.goes.seen in
      let same : nodes ≡ metadata_of c.base p = same_ok nodes (metadata_of c.base p) told.0 in
      let seen : IsFront c.base past.history = subst (λ (h : List Seen). IsFront h past.history) told.1 front in
      record {
        seen = c.base;
        begins = begins_on (starting_of setup) old.seen c.base begins c.sees.grows;
        front = seen;
        plan = sym (pieces_of_unasked (plan_of p nodes)) ∙ ap (plan_of p) same;
        known = unasked_known knows (plan_of p nodes);
      }

  -- ---- an answer is noted

  plan_noted : (p : Partition) (s : Sequence) (y : PieceAnswer) (piece : Piece) (o : Option Route)
      → ((route : Route) → o ≡ Some route → IsRoute setup past knows p route)
      → option_map (λ x. x.piece) (asked_for s (plan_in o)) ≡ Some piece → knows piece y
      → IsPlan setup past knows p (with_answer s y (plan_in o))
  plan_noted p s y piece None k e f = absurd (cc)
  plan_noted p s y piece (Some Untried) k e f = absurd (cc)
  plan_noted p s y piece (Some Failed) k e f = absurd (cc)
  plan_noted p s y piece (Some (Planned xs)) k e f =
      let was : IsPlan setup past knows p xs = k (Planned xs) refl in
      record {
        seen = was.seen;
        begins = was.begins;
        front = was.front;
        plan = pieces_stay s y xs ∙ was.plan;
        known = pieces_more knows s y xs piece was.known e f;
      }

-- ---- a query's calls

abbrev answer_of : Instance → PieceGot → PieceAnswer
answer_of from what = record { from = from; got = what }

-- what is known may speak of the query that is asked
module _ (setup : Setup) (past : Past) (knows : Query → Knows) where
  abbrev IsKept : Asking → Type 0
  IsKept a = IsAskedKnowing setup past (knows a.query) a

  pub asked_routed : (old new : Meaning) (a b : Asking) (p : Partition) (result : Result ℕ BrokerRefused) → Routes old new a p b result
      → Begins (starting_of setup) old.seen → IsFront new.seen past.history → IsKept a → IsKept b
  asked_routed old new a b p (Ok count) r begins front k =
      subst IsKept (sym r.1.noted)
      (asked_with setup past (knows a.query) a p (Planned (map unasked (plan_of p r.1.nodes))) k
      (planned_now setup past (knows a.query) old new p r.1.nodes begins front r.1.listed))
  asked_routed old new a b p (Err NotDue) r begins front k = subst IsKept (sym r.1) k
  asked_routed old new a b p (Err StoreFault) r begins front k = subst IsKept (sym r.2) (asked_with setup past (knows a.query) a p Failed k tt)
  asked_routed old new a b p (Err Memory) r begins front k = subst IsKept (sym r.1) k

  pub asked_noted : (a b : Asking) (piece : Piece) (from : Instance) (what : PieceGot) (result : Result (Unit {0}) BrokerRefused)
      → Notes a piece from what b result → knows a.query piece (answer_of from what) → IsKept a → IsKept b
  asked_noted a b piece from what (Ok done) n f k =
      let plan : List PieceAsked = with_answer piece.sequence (answer_of from what) (plan_at a piece.partition) in
      subst IsKept (sym n.1)
      (asked_with setup past (knows a.query) a piece.partition (Planned plan) k
      (plan_noted setup past (knows a.query) piece.partition piece.sequence (answer_of from what) piece (route_at a piece.partition) (k.routes piece.partition) n.0.0 f))
  asked_noted a b piece from what (Err NotDue) n f k = subst IsKept (sym n.1) k
  asked_noted a b piece from what (Err StoreFault) n f k = absurd n
  asked_noted a b piece from what (Err Memory) n f k = subst IsKept (sym n.1) k

-- ---- where what is known is that it is right

pub asked_begins : (setup : Setup) (past : Past) (query : Query) → IsAsked setup past (asking query setup)
asked_begins setup past query = asking_begins setup past (IsRightNoted setup past query) query

pub route_kept : (old new : Meaning) (a : Asking) (p : Partition) (b : Asking) (result : Result ℕ BrokerRefused) → Routes old new a p b result
    → (setup : Setup) (past : Past) → Begins (starting_of setup) old.seen → IsFront new.seen past.history → IsAsked setup past a → IsAsked setup past b
route_kept old new a p b result r setup past begins front k =
    asked_routed setup past (IsRightNoted setup past) old new a b p result r begins front k

pub note_kept : (a : Asking) (piece : Piece) (from : Instance) (what : PieceGot) (b : Asking) (result : Result (Unit {0}) BrokerRefused)
    → Notes a piece from what b result → (setup : Setup) (past : Past) → IsRightGot setup past a.query piece what → IsAsked setup past a → IsAsked setup past b
note_kept a piece from what b result n setup past f k = asked_noted setup past (IsRightNoted setup past) a b piece from what result n f k

-- ---- a fault was met

pub route_rose : (old new : Meaning) (a : Asking) (p : Partition) (b : Asking) (result : Result ℕ BrokerRefused)
    → Routes old new a p b result → IfErr result (λ refused. refused ≡ StoreFault → old.faults < new.faults)
route_rose old new a p b (Ok count) r = tt
route_rose old new a p b (Err NotDue) r = λ e. absurd (cc)
route_rose old new a p b (Err StoreFault) r = λ e. list_rose old new p r.1
route_rose old new a p b (Err Memory) r = λ e. absurd (cc)
