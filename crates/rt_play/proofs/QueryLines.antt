-- What the answer of a `query` line is made of, in the world in which the line is said.
use Rattle.std.proofs.Common.{◌≡◌, ◌+◌, ◌<◌, ◌==◌, inl, ℕ, zero, suc, Bool, true, false, cond, List, [], ◌∷◌, ◌++◌, map, length, Option, Some, None, Result, Ok, Err, refl, sym, ◌∙◌, ap, subst, slice_get, arith}
use Rattle.std.specs.Prelude.{IfSome, option_map}
use Rattle.std.proofs.lemmas.Bool.{eq-eqb, ne_eqb}
use Rattle.std.proofs.lemmas.List.{append-nil}
use Rattle.std.proofs.lemmas.Option.{none-some, same_Some}
use Rattle.rt_base.specs.declared.numbers.Instance.{Instance}
use Rattle.rt_base.specs.declared.numbers.Partition.{Partition}
use Rattle.rt_base.specs.declared.numbers.Sequence.{Sequence}
use Rattle.rt_base.specs.declared.range.Range.{Range}
use Rattle.rt_agg.specs.declared.served.Served.{Served}
use Rattle.rt_broker.specs.Answering.{asked_piece, pieces_in, routed_from, routed_of}
use Rattle.rt_broker.specs.Asking.{Asking, first_served, served_by, served_in}
use Rattle.rt_broker.specs.IsAsked.{AreKnownAnswers, AreKnownPieces, IsRightGot, IsRightNoted, IsRoute}
use Rattle.rt_broker.specs.Noting.{IsRangeOf}
use Rattle.rt_broker.specs.declared.piece_asked.PieceAnswer.{PieceAnswer}
use Rattle.rt_broker.specs.declared.piece_asked.PieceAsked.{PieceAsked}
use Rattle.rt_broker.specs.declared.piece_got.PieceGot.{PieceGot}
use Rattle.rt_broker.specs.declared.piece_got.PieceGot.TheVariants as got
use Rattle.rt_broker.specs.declared.route.Route.{Route}
use Rattle.rt_broker.specs.declared.route.Route.TheVariants.{Failed, Planned, Untried}
use Rattle.rt_events.specs.Fits.{Fits}
use Rattle.rt_events.specs.declared.event.Event.{Event}
use Rattle.rt_events.specs.declared.event.Event.TheVariants as event
use Rattle.rt_events.specs.declared.outcome.Outcome.{Outcome}
use Rattle.rt_events.specs.declared.outcome.Outcome.TheVariants as came
use Rattle.rt_events.specs.declared.refusal.Refusal.{Refusal}
use Rattle.rt_lists.specs.Members.{Has}
use Rattle.rt_lists.proofs.Members.{Has-append_left, Has-append_right, Has-same}
use Rattle.rt_macros.specs.Doing.{Gives, Happens, Passed, Reached}
use Rattle.rt_macros.specs.Outcomes.{answer_in, asked_in}
use Rattle.rt_macros.specs.Querying.{AfterAsking, AnswersNow, AsksAll, AsksAndAnswers, AsksOne, AsksPartition, AsksPiece, AsksReplicas, ByNumber, GivesAnswer, Queries, QueryTold, RoutesAll, RoutesOne, TellsServed}
use Rattle.rt_model.specs.Metadata.{metadata_of}
use Rattle.rt_model.specs.Plan.{plan_of}
use Rattle.rt_model.specs.RightAnswer.{AskedPiece, merged, missing_if, missing_in, missing_of, named_ranges, pieces_of, served_ranges, unserved}
use Rattle.rt_model.specs.declared.answer.Answer.{Answer}
use Rattle.rt_model.specs.declared.piece.Piece.{Piece}
use Rattle.rt_model.specs.declared.query.Query.{Query}
use Rattle.rt_model.specs.declared.setup.Setup.{Setup}
use Rattle.rt_play.proofs.AnswerWords.{answer_words}
use Rattle.rt_play.proofs.Covered.{AllServed, AreFit}
use Rattle.rt_play.proofs.Gathered.{Gathers, IsRouteOf, ask_gathers, piece_gathers, route_gathers}
use Rattle.rt_play.proofs.Keeping.{Keeps, each_from_keeps, each_keeps, happens_keeps, passed_keeps, stay_keeps, then_keeps}
use Rattle.rt_play.proofs.LineReads.{asked_number, given, same_told, was_then}
use Rattle.rt_play.specs.AnswerTexts.{AreWords}
use Rattle.rt_play.specs.Named.{ranges_at}
use Rattle.rt_report.specs.BrokerTexts.{answer_line}
use Rattle.rt_safety.proofs.Answering.{answers_right}
use Rattle.rt_safety.proofs.Later.{leads_on}
use Rattle.rt_safety.proofs.Runs.{leads_safe}
use Rattle.rt_safety.specs.IsAnswered.{IsAnswered}
use Rattle.rt_safety.specs.Runs.{Leads, happens}
use Rattle.rt_state.specs.Finding.{query_at}
use Rattle.rt_state.specs.IsSafe.{past_of}
use Rattle.rt_state.specs.IsSafeWorld.{IsSafeWorld}
use Rattle.rt_state.specs.Queries.{AnswersAt}
use Rattle.rt_state.specs.declared.state.State.{State}
use Rattle.rt_world.specs.Reading.{pieces_of as planned_in}
use Rattle.rt_world.specs.Step.{Steps}

-- ---- a query line's way

-- a safe world of the same cluster, in which no more was gathered than what is there before
record OnWay (w : State) (number : ℕ) (u : State) : Type 0 where
  safe : IsSafeWorld u
  setup : u.setup ≡ w.setup
  gathers : Gathers w number u

step_on : (w u v : State) (number : ℕ) (e : Event) (o : Outcome) → Fits u.setup.schema e → Steps u e v (Ok o) → (Gathers w number u → Gathers w number v)
    → OnWay w number u → OnWay w number v
step_on w u v number e o fits steps gathers k = record {
  safe = leads_safe u (happens e o ∷ []) v k.safe (v, (fits, steps), refl);
  setup = (leads_on u (happens e o ∷ []) v k.safe (v, (fits, steps), refl)).setup ∙ k.setup;
  gathers = gathers k.gathers;
}

routes_on : (w : State) (number : ℕ) (p : Partition) → Keeps (OnWay w number) (Passed (event.Route number p))
routes_on w number p =
    passed_keeps (OnWay w number) (event.Route number p)
    (λ u v o k steps. step_on w u v number (event.Route number p) o tt steps (λ g. route_gathers w u v number p o g steps) k)

routes_all : (w : State) (number : ℕ) → Keeps (OnWay w number) (RoutesAll number)
routes_all w number u v r k h =
    each_from_keeps (OnWay w number) (RoutesOne number) 0 u.setup.partitions tt (λ n s. routes_on w number (record { 0 = n })) u v r k h

asks_event : (w : State) (number : ℕ) (p : Partition) (s : Sequence) (i : Instance) → Keeps (OnWay w number) (Happens (event.Piece number p s i))
asks_event w number p s i =
    happens_keeps (OnWay w number) (event.Piece number p s i)
    (λ u v o k steps. step_on w u v number (event.Piece number p s i) o tt steps (λ g. piece_gathers w u v number p s i o g steps) k)

asks_one : (w : State) (number : ℕ) (piece : Piece) (n : ℕ) (served : Bool) → Keeps (OnWay w number) (AsksOne number piece n served)
asks_one w number piece n true u v r k h = stay_keeps (OnWay w number) u v k h.0
asks_one w number piece n false u v r k h =
    then_keeps (OnWay w number) (Happens (event.Piece number piece.partition piece.sequence _)) TellsServed
    (asks_event w number piece.partition piece.sequence _) (λ o x y q k h. stay_keeps (OnWay w number) x y k h.0) u v r k h

asks_replicas : (w : State) (number : ℕ) (piece : Piece) → Keeps (OnWay w number) (AsksReplicas number piece)
asks_replicas w number piece u v r k h =
    each_from_keeps (OnWay w number) (AsksOne number piece) 0 u.setup.table.replication false (λ n s. asks_one w number piece n s) u v r k h

asks_piece : (w : State) (number : ℕ) (piece : Piece) → Keeps (OnWay w number) (AsksPiece number piece tt)
asks_piece w number piece u v r k h =
    then_keeps (OnWay w number) (AsksReplicas number piece) (λ served. Gives tt) (asks_replicas w number piece)
    (λ served x y q k h. stay_keeps (OnWay w number) x y k h.0) u v r k h

asks_partition : (w : State) (number n : ℕ) → Keeps (OnWay w number) (AsksPartition number n tt)
asks_partition w number n u v r k h =
    each_keeps (OnWay w number) (AsksPiece number) (planned_in u number (record { 0 = n })) tt (λ piece done. asks_piece w number piece) u v r k h

asks_all : (w : State) (number : ℕ) → Keeps (OnWay w number) (AsksAll number)
asks_all w number u v r k h =
    each_from_keeps (OnWay w number) (AsksPartition number) 0 u.setup.partitions tt (λ n done. asks_partition w number n) u v r k h

-- ---- its answer

-- a query is answered on its way, which leaves the controllers as they were
pub record IsFound (w v : State) (answer : Answer) : Type 0 where
  pub number : ℕ
  pub world : State
  pub setup : world.setup ≡ w.setup
  pub gathers : Gathers w number world
  pub answered : IsAnswered world number answer
  pub words : AreWords answer
  pub kept : v.controllers ≡ w.controllers

-- the answer itself changes no controller
answer_keeps : (u v : State) (number : ℕ) (o : Outcome) → Steps u (event.Answer number) v (Ok o) → v.controllers ≡ u.controllers
answer_keeps u v number o steps = by_query (query_at u number) steps.2
  where
    by_query : (a : Option Asking) → AnswersAt a u number steps.0 (v, o) → v.controllers ≡ u.controllers
    by_query None h = absurd h
    by_query (Some a) (answer, right, is) = ap (λ (x : State × Outcome). x.0.controllers) is

answers_now : (w : State) (number : ℕ) (u : State) (v : Reached) (answer : Answer) → OnWay w number u → AnswersNow number u v (Ok answer) → IsFound w v.world answer
answers_now w number u v answer k h =
    let t = was_then (Happens (event.Answer number)) (λ outcome. GivesAnswer (answer_in outcome)) u v answer h in
    let g = given number u t.between t.last answer t.told t.came t.further in
    let right = answers_right u t.between.world number answer k.safe g.0 in
    record {
      number = number;
      world = u;
      setup = k.setup;
      gathers = k.gathers;
      answered = right;
      words = answer_words u number answer right k.safe;
      kept =
          ap (λ (x : Reached). x.world.controllers) t.whole ∙ ap (λ (x : State). x.controllers) g.1
          ∙ answer_keeps u t.between.world number (came.Answered answer) g.0 ∙ k.gathers.controllers;
    }

-- of the same world
found_then : (w u v : State) (answer : Answer) → v ≡ u → IsFound w u answer → IsFound w v answer
found_then w u v answer same k = subst (λ x. IsFound w x answer) (sym same) k

asks_and_answers : (w : State) (number : ℕ) (u : State) (v : Reached) (answer : Answer) → OnWay w number u → AsksAndAnswers number u v (Ok answer) → IsFound w v.world answer
asks_and_answers w number u v answer k h =
    let t = was_then (AsksAll number) (λ done. AnswersNow number) u v answer h in
    found_then w t.last.world v.world answer (ap (λ (x : Reached). x.world) t.whole)
    (answers_now w number t.between.world t.last answer (asks_all w number u t.between (Ok t.told) k t.came) t.further)

after_asking : (w : State) (number : ℕ) (u : State) (v : Reached) (answer : Answer) → OnWay w number u → AfterAsking number u v (Ok answer) → IsFound w v.world answer
after_asking w number u v answer k h =
    let t = was_then (RoutesAll number) (λ done. AsksAndAnswers number) u v answer h in
    found_then w t.last.world v.world answer (ap (λ (x : Reached). x.world) t.whole)
    (asks_and_answers w number t.between.world t.last answer (routes_all w number u t.between (Ok t.told) k t.came) t.further)

by_number : (w : State) (o : Option ℕ) (u : State) (v : Reached) (answer : Answer) → ((number : ℕ) → o ≡ Some number → OnWay w number u) → ByNumber o u v (Ok answer)
    → IsFound w v.world answer
by_number w (Some number) u v answer k h = after_asking w number u v answer (k number refl) h
by_number w None u v answer k h = absurd (none_told h.1)
  where
    none_told : {refusal : Refusal} → (let ok : Answer → Result Answer Refusal = λ x. Ok x in ok answer ≡ Err refusal) → ⊥
    none_told e = cc

query_found : (query : Query) (w : State) (v : Reached) (answer : Answer) → IsSafeWorld w → Fits w.setup.schema (event.Ask query) → Queries query w v (Ok answer) → IsFound w v.world answer
query_found query w v answer safe fits h =
    let t = was_then (Happens (event.Ask query)) (λ outcome. ByNumber (asked_in outcome)) w v answer h in
    let steps = t.came.by.0 in
    let asked = ask_gathers w t.between.world query t.told steps in
    let led : Leads w (happens (event.Ask query) t.told ∷ []) t.between.world = (t.between.world, (fits, steps), refl) in
    found_then w t.last.world v.world answer (ap (λ (x : Reached). x.world) t.whole)
    (by_number w (asked_in t.told) t.between.world t.last answer
    (λ number e. record {
      safe = leads_safe w (happens (event.Ask query) t.told ∷ []) t.between.world safe led;
      setup = (leads_on w (happens (event.Ask query) t.told ∷ []) t.between.world safe led).setup;
      gathers = subst (λ n. Gathers w n t.between.world) (sym (asked_number w t.between.world query t.told number steps e)) asked;
    })
    t.further)

pub record AnswerFound (w v : State) (text : List ℕ) : Type 0 where
  pub answer : Answer
  pub told : text ≡ answer_line answer
  pub found : IsFound w v answer

pub query_answer : (query : Query) (w : State) (v : Reached) (text : List ℕ) → IsSafeWorld w → Fits w.setup.schema (event.Ask query) → QueryTold query w v (Ok text)
    → AnswerFound w v.world text
query_answer query w v text safe fits h =
    let t = was_then (Queries query) (λ answer. Gives (answer_line answer)) w v text h in
    record {
      answer = t.told;
      told = same_told text (answer_line t.told) t.further.1;
      found =
          found_then w t.between.world v.world t.told (ap (λ (x : Reached). x.world) t.whole ∙ ap (λ (x : Reached). x.world) t.further.0)
          (query_found query w t.between t.told safe fits t.came);
    }

-- ---- one partition of it

at_append : (p : Partition) (xs ys : List (Partition × Range)) → ranges_at p (xs ++ ys) ≡ ranges_at p xs ++ ranges_at p ys
at_append p [] ys = refl
at_append p (x ∷ xs) ys = by_test (x.0.0 == p.0) (at_append p xs ys)
  where
    by_test : (b : Bool) → ranges_at p (xs ++ ys) ≡ ranges_at p xs ++ ranges_at p ys
        → cond b (x.1 ∷ ranges_at p (xs ++ ys)) (ranges_at p (xs ++ ys)) ≡ cond b (x.1 ∷ ranges_at p xs) (ranges_at p xs) ++ ranges_at p ys
    by_test true further = ap (λ rs. x.1 ∷ rs) further
    by_test false further = further

at_own : (p q : Partition) (rs : List Range) → q.0 ≡ p.0 → ranges_at p (map (λ r. (q, r)) rs) ≡ rs
at_own p q [] e = refl
at_own p q (r ∷ rs) e =
    ap (λ b. cond b (r ∷ ranges_at p (map (λ s. (q, s)) rs)) (ranges_at p (map (λ s. (q, s)) rs))) (eq-eqb q.0 p.0 e) ∙ ap (λ xs. r ∷ xs) (at_own p q rs e)

at_other : (p q : Partition) (rs : List Range) → (q.0 ≡ p.0 → ⊥) → ranges_at p (map (λ r. (q, r)) rs) ≡ []
at_other p q [] e = refl
at_other p q (r ∷ rs) e =
    ap (λ b. cond b (r ∷ ranges_at p (map (λ s. (q, s)) rs)) (ranges_at p (map (λ s. (q, s)) rs))) (ne_eqb q.0 p.0 e) ∙ at_other p q rs e

abbrev served_at : Route → List Range
served_at route = merged (served_ranges (pieces_of (pieces_in route)))

at_later : (p : Partition) (k : ℕ) (routes : List Route) → p.0 < k → ranges_at p (named_ranges (routed_from k routes)) ≡ []
at_later p k [] lt = refl
at_later p k (route ∷ routes) lt =
    at_append p (map (λ r. (record { 0 = k }, r)) (served_at route)) (named_ranges (routed_from (k + 1) routes))
    ∙ ap (λ xs. xs ++ ranges_at p (named_ranges (routed_from (k + 1) routes))) (at_other p (record { 0 = k }) (served_at route) (λ e. omega (arith, lt, e)))
    ∙ at_later p (k + 1) routes (omega (arith, lt))

at_route : (p : Partition) (k i : ℕ) (routes : List Route) (route : Route) → p.0 ≡ k + i → slice_get routes i ≡ Some route
    → ranges_at p (named_ranges (routed_from k routes)) ≡ served_at route
at_route p k i [] route e at = absurd (cc)
at_route p k zero (first ∷ routes) route e at =
    at_append p (map (λ r. (record { 0 = k }, r)) (served_at first)) (named_ranges (routed_from (k + 1) routes))
    ∙ ap (λ xs. xs ++ ranges_at p (named_ranges (routed_from (k + 1) routes))) (at_own p (record { 0 = k }) (served_at first) (omega (arith, e)))
    ∙ ap (λ xs. served_at first ++ xs) (at_later p (k + 1) routes (omega (arith, e)))
    ∙ append-nil (served_at first)
    ∙ ap served_at (same_Some first route at)
at_route p k (suc i) (first ∷ routes) route e at =
    at_append p (map (λ r. (record { 0 = k }, r)) (served_at first)) (named_ranges (routed_from (k + 1) routes))
    ∙ ap (λ xs. xs ++ ranges_at p (named_ranges (routed_from (k + 1) routes))) (at_other p (record { 0 = k }) (served_at first) (λ f. omega (arith, e, f)))
    ∙ at_route p (k + 1) i routes route (omega (arith, e)) at

abbrev numbered : ℕ → Partition
numbered n = record { 0 = n }

missing_route : (p : Partition) (s : Option Sequence) (k i : ℕ) (routes : List Route) (route : Route) → p.0 ≡ k + i → slice_get routes i ≡ Some route
    → Has (missing_in p (pieces_in route)) (p, s) → Has (missing_of (routed_from k routes)) (p, s)
missing_route p s k i [] route e at has = absurd (cc)
missing_route p s k zero (first ∷ routes) route e at has =
    let here : p ≡ numbered k = let n : p.0 ≡ k = omega (arith, e) in ap numbered n in
    Has-append_left (missing_in (numbered k) (pieces_in first)) (missing_of (routed_from (k + 1) routes)) (p, s)
    (subst (λ (q : Partition). Has (missing_in q (pieces_in first)) (p, s)) here
    (subst (λ (r : Route). Has (missing_in p (pieces_in r)) (p, s)) (sym (same_Some first route at)) has))
missing_route p s k (suc i) (first ∷ routes) route e at has =
    Has-append_right (missing_in (numbered k) (pieces_in first)) (missing_of (routed_from (k + 1) routes)) (p, s)
    (missing_route p s (k + 1) i routes route (omega (arith, e)) at has)

-- ---- what was served

abbrev IsFit : Piece → Option Served → Type 0
IsFit piece o = IfSome (option_map (λ (served : Served). served.range) o) (IsRangeOf piece)

-- what was served of a piece is a range of it
served_fits : (w : State) (query : Query) (piece : Piece) (ys : List PieceAnswer) → AreKnownAnswers (IsRightNoted w.setup (past_of w) query) piece ys
    → IfSome (option_map (λ (served : Served). served.range) (served_in ys)) (IsRangeOf piece)
served_fits w query piece [] k = tt
served_fits w query piece (y ∷ ys) k = by_got y.got k.0 (served_fits w query piece ys k.1)
  where
    by_got : (what : PieceGot) → IsRightGot w.setup (past_of w) query piece what → IsFit piece (served_in ys) → IsFit piece (first_served (served_by what) (served_in ys))
    by_got (got.Served served) right further = right.range
    by_got got.NotServed right further = further
    by_got got.Down right further = further

plan_fits : (w : State) (query : Query) (xs : List PieceAsked) → AreKnownPieces (IsRightNoted w.setup (past_of w) query) xs → AreFit (map asked_piece xs)
plan_fits w query [] k = tt
plan_fits w query (x ∷ xs) k = (served_fits w query x.piece x.answers k.0, plan_fits w query xs k.1)

same_pieces : (xs : List PieceAsked) → map (λ a. a.piece) (map asked_piece xs) ≡ map (λ x. x.piece) xs
same_pieces [] = refl
same_pieces (x ∷ xs) = ap (λ ps. x.piece ∷ ps) (same_pieces xs)

none_unserved : (p : Partition) (xs : List AskedPiece) → ((s : Option Sequence) → Has (unserved p xs) (p, s) → ⊥) → AllServed xs
none_unserved p [] f = tt
none_unserved p (a ∷ xs) f = (
  λ e. f (Some a.piece.sequence) (Has-append_left (missing_if p a.piece a.served) (unserved p xs) (p, Some a.piece.sequence) (lost a.served e)),
  none_unserved p xs (λ s has. f s (Has-append_right (missing_if p a.piece a.served) (unserved p xs) (p, s) has)),
)
  where
    lost : (o : Option Range) → o ≡ None → Has (missing_if p a.piece o) (p, Some a.piece.sequence)
    lost None e = inl refl
    lost (Some r) e = absurd (none-some r (sym e))

-- what came of a partition: what it names, of a plan over the world's metadata list; or it is missing whole
pub record PartFound (w : State) (p : Partition) (answer : Answer) : Type 0 where
  pub pieces : Option (List AskedPiece)
  pub named : ranges_at p answer.ranges ≡ merged (served_ranges (pieces_of pieces))
  pub plan : (xs : List AskedPiece) → pieces ≡ Some xs → (map (λ a. a.piece) xs ≡ plan_of p (metadata_of w.store.writes p)) × AreFit xs
  pub lost : pieces ≡ None → Has answer.missing (p, None)
  pub whole : (xs : List AskedPiece) → pieces ≡ Some xs → ((s : Option Sequence) → Has answer.missing (p, s) → ⊥) → AllServed xs

found_at : {X : Type 0} (xs : List X) (i : ℕ) → i < length xs → (x : X) × (slice_get xs i ≡ Some x)
found_at [] i lt = absurd (omega (arith, lt))
found_at (x ∷ xs) zero lt = (x, refl)
found_at (x ∷ xs) (suc i) lt = found_at xs i (omega (arith, lt))

pub part_found : (w v : State) (answer : Answer) (p : Partition) → p.0 < w.setup.partitions → IsFound w v answer → PartFound w p answer
part_found w v answer p within f =
    let a = f.answered.asked in
    let over = f.answered.over in
    let there = found_at a.routes p.0 (omega (arith, within, over.partitions, ap (λ (s : Setup). s.partitions) f.setup)) in
    by_route there.0 there.1 (over.routes p there.0 there.1) (f.gathers.routes a f.answered.there p there.0 there.1)
  where
    named : (route : Route) → slice_get f.answered.asked.routes p.0 ≡ Some route → ranges_at p answer.ranges ≡ merged (served_ranges (pieces_of (pieces_in route)))
    named route at = ap (ranges_at p) f.answered.right.ranges ∙ at_route p 0 p.0 f.answered.asked.routes route (omega arith) at

    missing : (route : Route) (s : Option Sequence) → slice_get f.answered.asked.routes p.0 ≡ Some route → Has (missing_in p (pieces_in route)) (p, s)
        → Has answer.missing (p, s)
    missing route s at has =
        Has-same (missing_of (routed_of f.answered.asked)) answer.missing (p, s) (sym f.answered.right.missing)
        (missing_route p s 0 p.0 f.answered.asked.routes route (omega arith) at has)

    by_route : (route : Route) → slice_get f.answered.asked.routes p.0 ≡ Some route
        → IsRoute f.world.setup (past_of f.world) (IsRightNoted f.world.setup (past_of f.world) f.answered.asked.query) p route
        → IsRouteOf w f.answered.asked.query p route → PartFound w p answer
    by_route Untried at over of = record {
      pieces = None;
      named = named Untried at;
      plan = λ xs e. absurd (none-some xs e);
      lost = λ e. missing Untried None at (inl refl);
      whole = λ xs e. absurd (none-some xs e);
    }
    by_route Failed at over of = record {
      pieces = None;
      named = named Failed at;
      plan = λ xs e. absurd (none-some xs e);
      lost = λ e. missing Failed None at (inl refl);
      whole = λ xs e. absurd (none-some xs e);
    }
    by_route (Planned ys) at over of =
        let xs = map asked_piece ys in
        let plan : map (λ a. a.piece) xs ≡ plan_of p (metadata_of w.store.writes p) = same_pieces ys ∙ of.plan in
        let fit = plan_fits f.world f.answered.asked.query ys over.known in
        record {
          pieces = Some xs;
          named = named (Planned ys) at;
          plan =
              λ zs e. subst (λ (l : List AskedPiece). (map (λ a. a.piece) l ≡ plan_of p (metadata_of w.store.writes p)) × AreFit l) (same_Some xs zs e) (plan, fit);
          lost = λ e. absurd (none-some xs (sym e));
          whole =
              λ zs e f. subst AllServed (same_Some xs zs e) (none_unserved p xs (λ s has. f s (missing (Planned ys) s at has)));
        }
