-- What was served of a query that lasts is served of the log: in order, within it, held by the groups.
use Rattle.std.proofs.Common.{◌≡◌, ℕ, suc, ◌+◌, ◌-◌, ◌<◌, ◌≤◌, Bool, true, false, cond, List, [], ◌∷◌, ◌++◌, length, map, drop, take, Option, Some, None, refl, sym, ap, subst, ◌∙◌, arith, slice_get, get_or, option_to_list}
use Rattle.std.specs.Prelude.{All, option_map, filter_map}
use Rattle.std.specs.List.{filter, cons_option}
use Rattle.std.proofs.lemmas.List.{length-append, length-take}
use Rattle.std.proofs.lemmas.Option.{slice_get_within}
use Rattle.std.proofs.lemmas.List.Elements.{All-nil, All-cons, All-append, All-head, All-tail}
use Rattle.rt_base.specs.declared.numbers.Offset.{Offset}
use Rattle.rt_base.specs.declared.numbers.Partition.{Partition}
use Rattle.rt_base.specs.declared.range.Range.{Range}
use Rattle.rt_lists.specs.Members.{IsFront}
use Rattle.rt_schema.specs.declared.row.Row.{Row}
use Rattle.rt_schema.specs.declared.schema.Schema.{Schema}
use Rattle.rt_schema.specs.Row.{row_of, rows_between}
use Rattle.rt_model.specs.declared.node.Seen.{Seen}
use Rattle.rt_model.specs.declared.piece.Piece.{Piece}
use Rattle.rt_model.specs.declared.query.Query.{Query}
use Rattle.rt_model.specs.declared.setup.Setup.{Setup}
use Rattle.rt_model.specs.Aggregate.{taken}
use Rattle.rt_model.specs.Match.{passes}
use Rattle.rt_model.specs.Laws.{Begins}
use Rattle.rt_model.specs.Lawful.{IsLawfulHistory}
use Rattle.rt_model.specs.Metadata.{metadata_of}
use Rattle.rt_model.specs.RightAnswer.{AreInOrder, IsServed, served_ranges}
use Rattle.rt_model.specs.Starting.{Starting}
use Rattle.rt_model.proofs.Lawful.{prefix_is_lawful}
use Rattle.rt_model.proofs.Kept.{lawful_kept}
use Rattle.rt_stream.specs.Log.{Log, messages_of}
use Rattle.rt_store.specs.Contents.{starting_of}
use Rattle.rt_agg.specs.declared.served.Served.{Served}
use Rattle.rt_agg.specs.Grouped.{Holds}
use Rattle.rt_past.specs.Past.{Past}
use Rattle.rt_past.specs.IsPast.{IsPast}
use Rattle.rt_broker.specs.declared.piece_asked.PieceAnswer.{PieceAnswer}
use Rattle.rt_broker.specs.declared.piece_asked.PieceAsked.{PieceAsked}
use Rattle.rt_broker.specs.declared.piece_got.PieceGot.{PieceGot}
use Rattle.rt_broker.specs.declared.piece_got.PieceGot.TheVariants as got
use Rattle.rt_broker.specs.declared.route.Route.{Route}
use Rattle.rt_broker.specs.declared.route.Route.TheVariants.{Untried, Failed, Planned}
use Rattle.rt_broker.specs.Answering.{AreHeld, AreServed, RowsOf, asked_piece, pieces_in, routed_from, rows_held, rows_in_log, served_from, served_pieces, served_route, under}
use Rattle.rt_broker.specs.Asking.{Asking, first_served, served_by, served_in}
use Rattle.rt_broker.specs.IsAsked.{AreKnownAnswers, AreKnownPieces, IsAsked, IsPlan, IsRightGot, IsRightNoted, IsRightServed, IsRoute, messages_in}
use Rattle.rt_broker.specs.Noting.{IsEnd}
use Rattle.rt_broker.proofs.Gaining.{rows_held_append}
use Rattle.rt_broker.proofs.Rising.{AreOf, AreOrdered, ordered_after, plan_is_of, plan_ordered}
use Rattle.rt_broker.proofs.Right.{order_from}

-- ---- what was served of a piece is right

served_first : (setup : Setup) (past : Past) (query : Query) (piece : Piece) (what : PieceGot) (later : Option Served) (s : Served)
    → IsRightGot setup past query piece what → ((t : Served) → later ≡ Some t → IsRightServed setup past query piece t)
    → first_served (served_by what) later ≡ Some s → IsRightServed setup past query piece s
served_first setup past query piece (got.Served t) later s k further e =
    let same : t ≡ s = cc in subst (IsRightServed setup past query piece) same k
served_first setup past query piece got.NotServed later s k further e = further s e
served_first setup past query piece got.Down later s k further e = further s e

served_right : (setup : Setup) (past : Past) (query : Query) (piece : Piece) (ys : List PieceAnswer) (s : Served)
    → AreKnownAnswers (IsRightNoted setup past query) piece ys → served_in ys ≡ Some s → IsRightServed setup past query piece s
served_right setup past query piece [] s k e = absurd (cc)
served_right setup past query piece (y ∷ ys) s k e =
    served_first setup past query piece y.got (served_in ys) s k.0 (λ t f. served_right setup past query piece ys t k.1 f) e

-- ---- in order

nothing_left : (xs : List PieceAsked) (from : ℕ) → map (λ x. x.piece) xs ≡ [] → AreInOrder from (served_ranges (map asked_piece xs))
nothing_left [] from e = tt
nothing_left (x ∷ xs) from e = absurd (cc)

after_piece : (end : Option Offset) (start : ℕ) (xs : List PieceAsked) (at : Offset) → IsEnd end at
    → ordered_after end start (map (λ x. x.piece) xs) (λ to. AreOrdered to (map (λ x. x.piece) xs))
    → ((to : ℕ) → AreOrdered to (map (λ x. x.piece) xs) → AreInOrder to (served_ranges (map asked_piece xs)))
    → AreInOrder at.0 (served_ranges (map asked_piece xs))
after_piece None start xs at is o further = nothing_left xs at.0 o
after_piece (Some e) start xs at is o further =
    subst (λ (x : Offset). AreInOrder x.0 (served_ranges (map asked_piece xs))) (sym is) (further e.0 o.1)

past_piece : (end : Option Offset) (from start : ℕ) (xs : List PieceAsked) → from ≤ start
    → ordered_after end start (map (λ x. x.piece) xs) (λ to. AreOrdered to (map (λ x. x.piece) xs))
    → ((to : ℕ) → AreOrdered to (map (λ x. x.piece) xs) → AreInOrder to (served_ranges (map asked_piece xs)))
    → AreInOrder from (served_ranges (map asked_piece xs))
past_piece None from start xs le o further = nothing_left xs from o
past_piece (Some e) from start xs le o further =
    order_from from e.0 (served_ranges (map asked_piece xs)) (omega (arith, le, o.0)) (further e.0 o.1)

served_order : (setup : Setup) (past : Past) (query : Query) (xs : List PieceAsked) (from : ℕ) → AreOrdered from (map (λ x. x.piece) xs)
    → AreKnownPieces (IsRightNoted setup past query) xs → AreInOrder from (served_ranges (map asked_piece xs))
served_order setup past query [] from o k = tt
served_order setup past query (x ∷ xs) from o k =
    by_served (served_in x.answers) (λ s e. served_right setup past query x.piece x.answers s k.0 e) (λ to later. served_order setup past query xs to later k.1)
  where
    by_served : (found : Option Served) → ((s : Served) → found ≡ Some s → IsRightServed setup past query x.piece s)
        → ((to : ℕ) → AreOrdered to (map (λ z. z.piece) xs) → AreInOrder to (served_ranges (map asked_piece xs)))
        → AreInOrder from (option_to_list (option_map (λ s. s.range) found) ++ served_ranges (map asked_piece xs))
    by_served None right further = past_piece x.piece.end from x.piece.start.0 xs o.0 o.1 further
    by_served (Some s) right further =
        let r = (right s refl).range in
        (omega (arith, o.0, ap (λ (z : Offset). z.0) r.start), r.order, after_piece x.piece.end x.piece.start.0 xs s.range.end r.end o.1 further)

-- ---- within the log, and held

abbrev IsWithin : Past → Partition → Range → Type 0
IsWithin past p r = r.end.0 ≤ length (messages_of past.log p)

served_within : (setup : Setup) (past : Past) (query : Query) (p : Partition) (xs : List PieceAsked) → AreOf p (map (λ x. x.piece) xs)
    → AreKnownPieces (IsRightNoted setup past query) xs → All (IsWithin past p) (served_ranges (map asked_piece xs))
served_within setup past query p [] of k = All-nil (IsWithin past p)
served_within setup past query p (x ∷ xs) of k =
    All-append (IsWithin past p) (option_to_list (option_map (λ s. s.range) (served_in x.answers))) (served_ranges (map asked_piece xs))
    (by_served (served_in x.answers) (λ s e. served_right setup past query x.piece x.answers s k.0 e))
    (served_within setup past query p xs of.1 k.1)
  where
    by_served : (found : Option Served) → ((s : Served) → found ≡ Some s → IsRightServed setup past query x.piece s)
        → All (IsWithin past p) (option_to_list (option_map (λ s. s.range) found))
    by_served None right = All-nil (IsWithin past p)
    by_served (Some s) right =
        All-cons (IsWithin past p) s.range [] (subst (λ q. IsWithin past q s.range) of.0 (right s refl).within) (All-nil (IsWithin past p))

held_append : (query : Query) (rows : RowsOf) (ss ts : List (Partition × Served)) → AreHeld query rows ss → AreHeld query rows ts → AreHeld query rows (ss ++ ts)
held_append query rows [] ts h k = k
held_append query rows (s ∷ ss) ts h k = (h.0, held_append query rows ss ts h.1 k)

served_held : (setup : Setup) (past : Past) (query : Query) (p : Partition) (xs : List PieceAsked) → AreOf p (map (λ x. x.piece) xs)
    → AreKnownPieces (IsRightNoted setup past query) xs → AreHeld query (rows_in_log setup.schema past.log query) (served_pieces p xs)
served_held setup past query p [] of k = tt
served_held setup past query p (x ∷ xs) of k =
    held_append query (rows_in_log setup.schema past.log query) (under p (served_in x.answers)) (served_pieces p xs)
    (by_served (served_in x.answers) (λ s e. served_right setup past query x.piece x.answers s k.0 e))
    (served_held setup past query p xs of.1 k.1)
  where
    by_served : (found : Option Served) → ((s : Served) → found ≡ Some s → IsRightServed setup past query x.piece s)
        → AreHeld query (rows_in_log setup.schema past.log query) (under p found)
    by_served None right = tt
    by_served (Some s) right =
        (subst (λ q. Holds query (taken query (rows_between setup.schema past.log q.0 s.range.start.0 s.range.end.0)) s.groups) of.0 (right s refl).rows, tt)

-- ---- few

filter_short : {X : Type 0} (f : X → Bool) (xs : List X) → length (filter f xs) ≤ length xs
filter_short f [] = omega arith
filter_short f (x ∷ xs) = by_test (f x) (filter_short f xs)
  where
    by_test : (b : Bool) → length (filter f xs) ≤ length xs → length (cond b (x ∷ filter f xs) (filter f xs)) ≤ length (x ∷ xs)
    by_test true le = omega (arith, le)
    by_test false le = omega (arith, le)

chosen_short : {X Y : Type 0} (f : X → Option Y) (xs : List X) → length (filter_map f xs) ≤ length xs
chosen_short {Y = Y} f [] = omega arith
chosen_short {Y = Y} f (x ∷ xs) = by_choice (f x) (chosen_short f xs)
  where
    by_choice : (o : Option Y) → length (filter_map f xs) ≤ length xs → length (cons_option o (filter_map f xs)) ≤ length (x ∷ xs)
    by_choice None le = omega (arith, le)
    by_choice (Some y) le = omega (arith, le)

rows_short : (schema : Schema) (log : List (List (List ℕ))) (query : Query) (p : Partition) (s : Served)
    → length (rows_in_log schema log query (p, s)) ≤ s.range.end.0 - s.range.start.0
rows_short schema log query p s =
    let messages = take (s.range.end.0 - s.range.start.0) (drop s.range.start.0 (get_or log p.0 [])) in
    let rows = filter_map (row_of schema) messages in
    omega (
      arith,
      filter_short (passes query.filter) rows,
      chosen_short (row_of schema) messages,
      length-take (s.range.end.0 - s.range.start.0) (drop s.range.start.0 (get_or log p.0 [])),
    )

pieces_few : (schema : Schema) (past : Past) (query : Query) (p : Partition) (xs : List PieceAsked) (from : ℕ) → from ≤ length (messages_of past.log p)
    → AreInOrder from (served_ranges (map asked_piece xs)) → All (IsWithin past p) (served_ranges (map asked_piece xs))
    → length (rows_held (rows_in_log schema past.log query) (served_pieces p xs)) + from ≤ length (messages_of past.log p)
pieces_few schema past query p [] from low o within = omega (arith, low)
pieces_few schema past query p (x ∷ xs) from low o within =
    by_served (served_in x.answers) o within (λ to high order inside. pieces_few schema past query p xs to high order inside)
  where
    by_served : (found : Option Served) → AreInOrder from (option_to_list (option_map (λ s. s.range) found) ++ served_ranges (map asked_piece xs))
        → All (IsWithin past p) (option_to_list (option_map (λ s. s.range) found) ++ served_ranges (map asked_piece xs))
        → ((to : ℕ) → to ≤ length (messages_of past.log p) → AreInOrder to (served_ranges (map asked_piece xs))
        → All (IsWithin past p) (served_ranges (map asked_piece xs))
        → length (rows_held (rows_in_log schema past.log query) (served_pieces p xs)) + to ≤ length (messages_of past.log p))
        → length (rows_held (rows_in_log schema past.log query) (under p found ++ served_pieces p xs)) + from ≤ length (messages_of past.log p)
    by_served None o within further = further from low o within
    by_served (Some s) o within further =
        let high = All-head (IsWithin past p) s.range (served_ranges (map asked_piece xs)) within in
        let rest = further s.range.end.0 high o.2 (All-tail (IsWithin past p) s.range (served_ranges (map asked_piece xs)) within) in
        omega (
          arith,
          o.0,
          o.1,
          high,
          rest,
          rows_short schema past.log query p s,
          length-append (rows_in_log schema past.log query (p, s)) (rows_held (rows_in_log schema past.log query) (served_pieces p xs)),
        )

-- ---- a route

-- what lasts of a plan, and the order of its pieces
record IsReady (setup : Setup) (past : Past) (query : Query) (p : Partition) (xs : List PieceAsked) : Type 0 where
  ordered : AreOrdered 0 (map (λ x. x.piece) xs)
  of : AreOf p (map (λ x. x.piece) xs)
  right : AreKnownPieces (IsRightNoted setup past query) xs

lawful_front : (s : Starting) (h k : List Seen) → Begins s h → IsFront h k → IsLawfulHistory s k → IsLawfulHistory s h
lawful_front s h k begins g l = prefix_is_lawful s h g.0 begins (subst (IsLawfulHistory s) g.1 l)

ready : (setup : Setup) (past : Past) (query : Query) (p : Partition) (xs : List PieceAsked) → IsLawfulHistory (starting_of setup) past.history → p.0 < setup.partitions
    → IsPlan setup past (IsRightNoted setup past query) p xs → IsReady setup past query p xs
ready setup past query p xs k within plan =
    let s = starting_of setup in
    let order = (lawful_kept s plan.seen (lawful_front s plan.seen past.history plan.begins plan.front k)).order p within in
    record {
      ordered = subst (AreOrdered 0) (sym plan.plan) (plan_ordered plan.seen p order);
      of = subst (AreOf p) (sym plan.plan) (plan_is_of p (metadata_of plan.seen p));
      right = plan.known;
    }

abbrev RowsIn : Setup → Past → Query → RowsOf
RowsIn setup past query = rows_in_log setup.schema past.log query

-- what a route has served
record IsGood (setup : Setup) (past : Past) (query : Query) (p : Partition) (route : Route) : Type 0 where
  served : IsServed past.log (record { partition = p; pieces = pieces_in route })
  held : AreHeld query (RowsIn setup past query) (served_route p route)
  few : length (rows_held (RowsIn setup past query) (served_route p route)) ≤ length (messages_of past.log p)

good_none : (setup : Setup) (past : Past) (p : Partition) → IsServed past.log (record { partition = p; pieces = None })
good_none setup past p = record { in_order = tt; within = All-nil (IsWithin past p) }

good : (setup : Setup) (past : Past) (query : Query) (p : Partition) (route : Route) → IsLawfulHistory (starting_of setup) past.history → p.0 < setup.partitions
    → IsRoute setup past (IsRightNoted setup past query) p route → IsGood setup past query p route
good setup past query p Untried k within r = record { served = good_none setup past p; held = tt; few = omega arith }
good setup past query p Failed k within r = record { served = good_none setup past p; held = tt; few = omega arith }
good setup past query p (Planned xs) k within r =
    let d = ready setup past query p xs k within r in
    let order = served_order setup past query xs 0 d.ordered d.right in
    let inside = served_within setup past query p xs d.of d.right in
    record {
      served = record { in_order = order; within = inside };
      held = served_held setup past query p xs d.of d.right;
      few = omega (arith, pieces_few setup.schema past query p xs 0 (omega arith) order inside);
    }

-- ---- all routes

abbrev AreGood : Setup → Past → Query → ℕ → List Route → Type 0
AreGood setup past query n [] = Unit {0}
AreGood setup past query n (route ∷ routes) =
    IsGood setup past query (record { 0 = n }) route × AreGood setup past query (n + 1) routes

abbrev numbered : ℕ → Partition
numbered n = record { 0 = n }

all_good : (setup : Setup) (past : Past) (query : Query) (n : ℕ) (routes : List Route)
    → ((i : ℕ) (route : Route) → slice_get routes i ≡ Some route → IsGood setup past query (numbered (n + i)) route) → AreGood setup past query n routes
all_good setup past query n [] each = tt
all_good setup past query n (route ∷ routes) each =
    let here : n + 0 ≡ n = omega arith in (
      subst (λ (m : ℕ). IsGood setup past query (numbered m) route) here (each 0 route refl),
      all_good setup past query (n + 1) routes
          (λ i other at. let next : n + suc i ≡ (n + 1) + i = omega arith in
          subst (λ (m : ℕ). IsGood setup past query (numbered m) other) next (each (suc i) other at)),
    )

all_served : (setup : Setup) (past : Past) (query : Query) (n : ℕ) (routes : List Route) → AreGood setup past query n routes
    → All (IsServed past.log) (routed_from n routes)
all_served setup past query n [] g = All-nil (IsServed past.log)
all_served setup past query n (route ∷ routes) g =
    All-cons (IsServed past.log) (record { partition = numbered n; pieces = pieces_in route }) (routed_from (n + 1) routes)
    g.0.served (all_served setup past query (n + 1) routes g.1)

all_held : (setup : Setup) (past : Past) (query : Query) (n : ℕ) (routes : List Route) → AreGood setup past query n routes
    → AreHeld query (RowsIn setup past query) (served_from n routes)
all_held setup past query n [] g = tt
all_held setup past query n (route ∷ routes) g =
    held_append query (RowsIn setup past query) (served_route (numbered n) route) (served_from (n + 1) routes)
    g.0.held (all_held setup past query (n + 1) routes g.1)

all_few : (setup : Setup) (past : Past) (query : Query) (n : ℕ) (routes : List Route) (rest : Log)
    → ((i : ℕ) → get_or past.log (n + i) [] ≡ get_or rest i []) → AreGood setup past query n routes
    → length (rows_held (RowsIn setup past query) (served_from n routes)) ≤ messages_in rest
all_few setup past query n [] rest same g = omega arith
all_few setup past query n (route ∷ routes) rest same g =
    by_rest rest same (λ more each. all_few setup past query (n + 1) routes more each g.1)
  where
    here : n + 0 ≡ n
    here = omega arith

    split : length (rows_held (RowsIn setup past query) (served_route (numbered n) route ++ served_from (n + 1) routes))
        ≡ length (rows_held (RowsIn setup past query) (served_route (numbered n) route)) + length (rows_held (RowsIn setup past query) (served_from (n + 1) routes))
    split =
        ap (λ (rows : List Row). length rows) (rows_held_append (RowsIn setup past query) (served_route (numbered n) route) (served_from (n + 1) routes))
        ∙ length-append (rows_held (RowsIn setup past query) (served_route (numbered n) route)) (rows_held (RowsIn setup past query) (served_from (n + 1) routes))

    later : (more : Log) → ((i : ℕ) → get_or past.log (n + suc i) [] ≡ get_or more i []) → (i : ℕ) → get_or past.log ((n + 1) + i) [] ≡ get_or more i []
    later more each i = let next : n + suc i ≡ (n + 1) + i = omega arith in
        subst (λ (m : ℕ). get_or past.log m [] ≡ get_or more i []) next (each i)

    size : (ms : List (List ℕ)) → get_or past.log (n + 0) [] ≡ ms → length (messages_of past.log (numbered n)) ≡ length ms
    size ms e = ap (λ (xs : List (List ℕ)). length xs) (ap (λ (m : ℕ). get_or past.log m []) (sym here) ∙ e)

    by_rest : (more : Log) → ((i : ℕ) → get_or past.log (n + i) [] ≡ get_or more i [])
        → ((log : Log) → ((i : ℕ) → get_or past.log ((n + 1) + i) [] ≡ get_or log i [])
        → length (rows_held (RowsIn setup past query) (served_from (n + 1) routes)) ≤ messages_in log)
        → length (rows_held (RowsIn setup past query) (served_route (numbered n) route ++ served_from (n + 1) routes)) ≤ messages_in more
    by_rest [] each further =
        omega (arith, split, g.0.few, size [] (each 0), further [] (later [] (λ i. each (suc i))))
    by_rest (ms ∷ more) each further =
        omega (arith, split, g.0.few, size ms (each 0), further more (later more (λ i. each (suc i))))

pub lawfully_served : (setup : Setup) (past : Past) (a : Asking) → IsAsked setup past a → length past.log ≡ setup.partitions
    → IsLawfulHistory (starting_of setup) past.history → messages_in past.log < 9223372036854775808 → AreServed setup.schema past.log a
lawfully_served setup past a k partitions lawful few =
    let all = all_good setup past a.query 0 a.routes
    (λ i route at. let start : i ≡ 0 + i = omega arith in
    subst (λ (m : ℕ). IsGood setup past a.query (numbered m) route) start
    (good setup past a.query (numbered i) route lawful (omega (arith, slice_get_within a.routes i route at, k.partitions)) (k.routes (numbered i) route at))) in
    record {
      partitions = partitions ∙ sym k.partitions;
      served = all_served setup past a.query 0 a.routes all;
      held = all_held setup past a.query 0 a.routes all;
      few = omega (arith, few, all_few setup past a.query 0 a.routes past.log (λ i. let start : 0 + i ≡ i = omega arith in ap (λ (m : ℕ). get_or past.log m []) start) all);
    }

pub asked_served : (setup : Setup) (past : Past) (a : Asking) → IsAsked setup past a → IsPast setup past → messages_in past.log < 9223372036854775808
    → AreServed setup.schema past.log a
asked_served setup past a k right few = lawfully_served setup past a k right.partitions right.lawful few
