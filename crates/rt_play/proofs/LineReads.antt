-- What a line leaves of the stream and of the queries, and what its text tells of an answer.
use Rattle.std.proofs.Common.{◌≡◌, ℕ, zero, suc, ◌+◌, Bool, true, false, List, [], ◌∷◌, ◌++◌, length, Option, Some, None, Result, Ok, Err, ◌==◌, nat_lt, refl, sym, ◌∙◌, ap, subst, slice_get}
use Rattle.rt_base.specs.declared.numbers.Instance.{Instance}
use Rattle.rt_base.specs.declared.numbers.Partition.{Partition}
use Rattle.rt_base.specs.declared.numbers.Sequence.{Sequence}
use Rattle.rt_broker.specs.Asking.{Asking}
use Rattle.rt_desk.proofs.Reaching.{Allowance, Goes, IsCalm, each_from_goes, leads_by, leads_then, passed_goes}
use Rattle.rt_desk.proofs.ReachingLines.{line_goes}
use Rattle.rt_desk.proofs.ReachingMacros.{asks_all_goes}
use Rattle.rt_desk.specs.Paused.{LeadsBy}
use Rattle.rt_desk.specs.Saying.{EventLineTold, EventTold, LineTold, MacroTold, UnlessHeld, held_by}
use Rattle.rt_desk.specs.Telling.{Beside, Told, told}
use Rattle.rt_desk.specs.declared.desk.Desk.{Desk}
use Rattle.rt_events.specs.declared.event.Event.{Event}
use Rattle.rt_events.specs.declared.event.Event.TheVariants as event
use Rattle.rt_events.specs.declared.outcome.Outcome.{Outcome}
use Rattle.rt_events.specs.declared.outcome.Outcome.TheVariants as came
use Rattle.rt_events.specs.declared.refusal.Refusal.{Refusal}
use Rattle.rt_events.specs.declared.refusal.Refusal.TheVariants.{NoSuchNode, NothingToDo}
use Rattle.rt_base.specs.declared.numbers.Offset.{Offset}
use Rattle.rt_lists.proofs.Members.{slice_get-push}
use Rattle.rt_macros.specs.Doing.{Act, Choose, EachFrom, Further as Behind, Gives, Happens, Reached, Refuses, Then, after}
use Rattle.rt_macros.specs.Filling.{FillTold, Fills, FillsOne, TellsLength, numbered_text}
use Rattle.rt_macros.specs.Outcomes.{answer_in, asked_in}
use Rattle.rt_macros.specs.Querying.{AfterAsking, AnswersNow, AsksAll, AsksAndAnswers, ByNumber, GivesAnswer, Queries, QueryTold, RoutesAll, RoutesOne}
use Rattle.rt_model.specs.declared.answer.Answer.{Answer}
use Rattle.rt_model.specs.declared.query.Query.{Query}
use Rattle.rt_model.specs.declared.setup.Setup.{Setup}
use Rattle.rt_play.proofs.AnswerWords.{answer_produced, answer_words}
use Rattle.rt_play.proofs.LineAnswers.{AnswersHere, asked_behind, produced_behind}
use Rattle.rt_play.proofs.NamedRanges.{produced_order, produced_within}
use Rattle.rt_play.specs.Reader.{CountsProduced, filled}
use Rattle.rt_report.specs.BrokerTexts.{answer_line}
use Rattle.rt_report.specs.MacroTexts.{filled_text}
use Rattle.rt_report.specs.Outcome.{outcome_text}
use Rattle.rt_safety.proofs.Answering.{answers_right}
use Rattle.rt_safety.proofs.Later.{leads_on}
use Rattle.rt_safety.proofs.Produced.{event_leaves, run_appends, run_asks}
use Rattle.rt_safety.proofs.Runs.{leads_safe}
use Rattle.rt_safety.specs.IsAnswered.{IsAnswered}
use Rattle.rt_safety.specs.Produced.{AreAsked, appended, asked_in as asked_by, log_after, queries_after}
use Rattle.rt_safety.specs.Runs.{Turn, happens, passes, Leads}
use Rattle.rt_script.specs.Line.{FitsLine}
use Rattle.rt_script.specs.declared.line.Line.{Line}
use Rattle.rt_script.specs.declared.line.Line.TheVariants as line
use Rattle.rt_script.specs.declared.line.Macro.TheVariants as macro
use Rattle.rt_state.specs.Finding.{query_at}
use Rattle.rt_state.specs.IsSafeWorld.{IsSafeWorld}
use Rattle.rt_state.specs.Queries.{AnswersAt}
use Rattle.rt_state.specs.declared.state.State.{State}
use Rattle.rt_stream.specs.Log.{Log}
use Rattle.rt_world.proofs.KeepsQueries.{query_there}
use Rattle.rt_world.specs.Reading.{length_of}
use Rattle.rt_world.specs.Step.{Steps}

-- ---- turns that neither append nor ask

abbrev IsSilent : Turn → Type 0
IsSilent (happens (event.Produce p message) outcome) = ⊥
IsSilent (happens (event.Ask query) outcome) = ⊥
IsSilent (happens e outcome) = Unit {0}
IsSilent passes = Unit {0}

calm_silent : (w : State) (e : Event) (outcome : Outcome) → IsCalm e → IsSilent (happens e outcome)
calm_silent w (event.Produce p message) outcome calm = absurd calm
calm_silent w (event.Ask query) outcome calm = absurd calm
calm_silent w e outcome calm = tt

abbrev silently : Allowance
silently = record { turn = λ w turn. IsSilent turn; calm = calm_silent; line = λ w. tt }

silent_log : (log : Log) (turn : Turn) → IsSilent turn → log_after log turn ≡ log
silent_log log (happens (event.Produce p message) outcome) silent = absurd silent
silent_log log (happens e outcome) silent = refl
silent_log log passes silent = refl

silent_queries : (queries : List Query) (turn : Turn) → IsSilent turn → queries_after queries turn ≡ queries
silent_queries queries (happens (event.Ask query) outcome) silent = absurd silent
silent_queries queries (happens e outcome) silent = refl
silent_queries queries passes silent = refl

appends_none : (turns : List Turn) (w v : State) (log : Log) → LeadsBy silently.turn w turns v → appended log turns ≡ log
appends_none [] w v log led = refl
appends_none (turn ∷ turns) w v log (next, t, silent, rest) =
    ap (λ l. appended l turns) (silent_log log turn silent) ∙ appends_none turns next v log rest

asks_none : (turns : List Turn) (w v : State) (queries : List Query) → LeadsBy silently.turn w turns v → asked_by queries turns ≡ queries
asks_none [] w v queries led = refl
asks_none (turn ∷ turns) w v queries (next, t, silent, rest) =
    ap (λ qs. asked_by qs turns) (silent_queries queries turn silent) ∙ asks_none turns next v queries rest

-- ---- what something leaves

-- the stream and the queries behind it
record LeavesAs (w v : State) (now : Log) (more : List Query → List Query) : Type 0 where
  log : v.log ≡ now
  queries : (queries : List Query) → AreAsked w queries → AreAsked v (more queries)

abbrev AsBefore : State → State → Type 0
AsBefore w v = LeavesAs w v w.log (λ queries. queries)

silence_leaves : (turns : List Turn) (w v : State) → LeadsBy silently.turn w turns v → AsBefore w v
silence_leaves turns w v led =
    let leads = leads_by silently.turn turns w v led in
    record {
      log = run_appends w turns v leads ∙ appends_none turns w v w.log led;
      queries = λ queries k. subst (AreAsked v) (asks_none turns w v queries led) (run_asks w turns v queries leads k);
    }

then_leaves : (w u v : State) (log : Log) (more : List Query → List Query) → LeavesAs w u log more → AsBefore u v → LeavesAs w v log more
then_leaves w u v log more a b = record { log = b.log ∙ a.log; queries = λ queries k. b.queries (more queries) (a.queries queries k) }

-- ---- something that was done, and what came behind it

pub record WasThen {A B : Type 0} (first : Act A) (behind : A → Act B) (w : State) (v : Reached) (y : B) : Type 0 where
  pub between : Reached
  pub told : A
  pub last : Reached
  pub came : first w between (Ok told)
  pub further : behind told between.world last (Ok y)
  pub whole : v ≡ after between.turns last

pub told_or : {A : Type 0} (x : A) (refusal : Refusal) → Ok x ≡ Err refusal → ⊥
told_or x refusal e = cc

pub was_then : {A B : Type 0} (first : Act A) (behind : A → Act B) (w : State) (v : Reached) (y : B) → Then first behind w v (Ok y) → WasThen first behind w v y
was_then {A} {B} first behind w v y t = by_told t.told t.came t.further
  where
    by_told : (told : Result A Refusal) → first w t.between told → Behind behind t.between.world t.last told (Ok y) → WasThen first behind w v y
    by_told (Ok x) came further = record { between = t.between; told = x; last = t.last; came = came; further = further; whole = t.whole }
    by_told (Err refusal) came h = absurd (told_or y refusal h.1)

pub same_told : {A : Type 0} (x y : A) → (let ok : A → Result A Refusal = λ z. Ok z in ok x ≡ ok y) → x ≡ y
same_told x y e = cc

-- ---- an event

event_behind : (e : Event) (o : Outcome) (log : Log) → log_after log (happens e o) ≡ produced_behind (Some (line.Event e)) log
event_behind (event.Produce p message) o log = refl
event_behind e o log = refl

queries_behind : (e : Event) (o : Outcome) (queries : List Query) → queries_after queries (happens e o) ≡ asked_behind (Some (line.Event e)) queries
queries_behind (event.Ask query) o queries = refl
queries_behind e o queries = refl

event_happened : (e : Event) (w : State) (v : Reached) (o : Outcome) → Happens e w v (Ok o)
    → LeavesAs w v.world (produced_behind (Some (line.Event e)) w.log) (asked_behind (Some (line.Event e)))
event_happened e w v o h =
    let leaves = event_leaves w v.world o e h.by.0 in
    record {
      log = leaves.log ∙ event_behind e o w.log;
      queries = λ queries k. subst (AreAsked v.world) (queries_behind e o queries) (leaves.queries queries k);
    }

-- only a `consume` is held
held_log : (e : Event) (paused : Bool) (w : State) (at : Instance × Partition × Sequence) (log : Log) → held_by w paused e ≡ Some at
    → produced_behind (Some (line.Event e)) log ≡ log
held_log (event.Produce p message) paused w at log e = absurd (cc)
held_log other paused w at log e = refl

held_queries : (e : Event) (paused : Bool) (w : State) (at : Instance × Partition × Sequence) (queries : List Query) → held_by w paused e ≡ Some at
    → asked_behind (Some (line.Event e)) queries ≡ queries
held_queries (event.Ask query) paused w at queries e = absurd (cc)
held_queries other paused w at queries e = refl

-- ---- an answer

-- an answer to a query, over this stream
record IsTold (schema_of : Setup) (log : Log) (queries : List Query) (number : ℕ) (answer : Answer) : Type 0 where
  query : Query
  asked : slice_get queries number ≡ Some query
  counts : (text : List ℕ) → text ≡ answer_line answer → CountsProduced schema_of.schema log query text

answered : (w : State) (number : ℕ) (answer : Answer) (queries : List Query) → IsSafeWorld w → IsAnswered w number answer → AreAsked w queries
    → IsTold w.setup w.log queries number answer
answered w number answer queries safe is k = record {
  query = is.asked.query;
  asked = k.same number is.asked (query_there w number is.asked is.there);
  counts = λ text same. record {
    answer = answer;
    told = same;
    words = answer_words w number answer is safe;
    order = produced_order w.log 0 0 answer.ranges (answer_produced w number answer is);
    within = produced_within w.log 0 0 answer.ranges (answer_produced w number answer is);
    rows = is.right.rows;
  };
}

-- what an `answer` event tells
answer_told : (w : State) (number : ℕ) (v : State) (o : Outcome) (queries : List Query) → IsSafeWorld w → AreAsked w queries → Steps w (event.Answer number) v (Ok o)
    → (answer : Answer) × (o ≡ came.Answered answer) × IsTold w.setup w.log queries number answer
answer_told w number v o queries safe k steps =
    let found = by_query (query_at w number) steps.2 in (
      found.0,
      found.1,
      answered w number found.0 queries safe
          (answers_right w v number found.0 safe (subst (λ (x : Outcome). Steps w (event.Answer number) v (Ok x)) found.1 steps)) k,
    )
  where
    by_query : (a : Option Asking) → AnswersAt a w number steps.0 (v, o) → (answer : Answer) × (o ≡ came.Answered answer)
    by_query None h = absurd h
    by_query (Some a) (answer, right, is) = (answer, ap (λ (z : State × Outcome). z.1) is)

-- ---- a query

routes_go : (number : ℕ) (w : State) → Goes silently w (RoutesAll number w)
routes_go number w =
    each_from_goes silently (RoutesOne number) 0 w.setup.partitions tt w
    (λ at done u. passed_goes silently (event.Route number (record { 0 = at })) u tt (λ o. tt))

-- a query is answered in a world to which silent turns led
record IsAnsweredBehind (w : State) (v : State) (number : ℕ) (answer : Answer) : Type 0 where
  world : State
  turns : List Turn
  led : LeadsBy silently.turn w turns world
  last : State
  steps : Steps world (event.Answer number) last (Ok (came.Answered answer))
  same : v ≡ last

pub given : (number : ℕ) (u : State) (m last : Reached) (answer : Answer) (o : Outcome) → Happens (event.Answer number) u m (Ok o)
    → GivesAnswer (answer_in o) m.world last (Ok answer) → Steps u (event.Answer number) m.world (Ok (came.Answered answer)) × (last.world ≡ m.world)
given number u m last answer (came.Answered a) h g =
    (subst (λ (x : Answer). Steps u (event.Answer number) m.world (Ok (came.Answered x))) (sym (same_told answer a g.1)) h.by.0, ap (λ (z : Reached). z.world) g.0)
given number u m last answer other h g = absurd (told_or answer _ g.1)

answers_now : (number : ℕ) (u : State) (v : Reached) (answer : Answer) → AnswersNow number u v (Ok answer) → IsAnsweredBehind u v.world number answer
answers_now number u v answer h =
    let t = was_then (Happens (event.Answer number)) (λ outcome. GivesAnswer (answer_in outcome)) u v answer h in
    let g = given number u t.between t.last answer t.told t.came t.further in
    record { world = u; turns = []; led = refl; last = t.between.world; steps = g.0; same = ap (λ (z : Reached). z.world) t.whole ∙ g.1 }

behind_more : (w u v : State) (turns : List Turn) (number : ℕ) (answer : Answer) → LeadsBy silently.turn w turns u → IsAnsweredBehind u v number answer
    → IsAnsweredBehind w v number answer
behind_more w u v turns number answer led h = record {
  world = h.world;
  turns = turns ++ h.turns;
  led = leads_then silently.turn turns h.turns w u h.world led h.led;
  last = h.last;
  steps = h.steps;
  same = h.same;
}

asks_and_answers : (number : ℕ) (u : State) (v : Reached) (answer : Answer) → AsksAndAnswers number u v (Ok answer) → IsAnsweredBehind u v.world number answer
asks_and_answers number u v answer h =
    let t = was_then (AsksAll number) (λ done. AnswersNow number) u v answer h in
    subst (λ (x : State). IsAnsweredBehind u x number answer) (sym (ap (λ (z : Reached). z.world) t.whole))
    (behind_more u t.between.world t.last.world t.between.turns number answer (asks_all_goes silently number u t.between (Ok t.told) t.came)
    (answers_now number t.between.world t.last answer t.further))

after_asking : (number : ℕ) (u : State) (v : Reached) (answer : Answer) → AfterAsking number u v (Ok answer) → IsAnsweredBehind u v.world number answer
after_asking number u v answer h =
    let t = was_then (RoutesAll number) (λ done. AsksAndAnswers number) u v answer h in
    subst (λ (x : State). IsAnsweredBehind u x number answer) (sym (ap (λ (z : Reached). z.world) t.whole))
    (behind_more u t.between.world t.last.world t.between.turns number answer (routes_go number u t.between (Ok t.told) t.came)
    (asks_and_answers number t.between.world t.last answer t.further))

by_number : (o : Option ℕ) (u : State) (v : Reached) (answer : Answer) → ByNumber o u v (Ok answer) → (number : ℕ) × (o ≡ Some number) × IsAnsweredBehind u v.world number answer
by_number (Some number) u v answer h = (number, refl, after_asking number u v answer h)
by_number None u v answer h = absurd (told_or answer _ h.1)

-- the number of a query that is asked is that of the queries before it
pub asked_number : (w v : State) (query : Query) (o : Outcome) (number : ℕ) → Steps w (event.Ask query) v (Ok o) → asked_in o ≡ Some number → number ≡ length w.queries
asked_number w v query o number (cost, due, is) e =
    let told : o ≡ came.Asked (length w.queries) = ap (λ (z : State × Outcome). z.1) is in
    same_number number (length w.queries) (sym e ∙ ap (λ x. asked_in x) told)
  where
    same_number : (a b : ℕ) → (let some : ℕ → Option ℕ = λ n. Some n in some a ≡ some b) → a ≡ b
    same_number a b f = cc

-- what is read of a line
pub record LineReads (said : Line) (w v : State) (text : List ℕ) : Type 0 where
  pub log : v.log ≡ produced_behind (Some said) w.log
  pub queries : (queries : List Query) → AreAsked w queries → AreAsked v (asked_behind (Some said) queries)
  pub answers : (queries : List Query) → AreAsked w queries → AnswersHere w.setup.schema (Some said) text w.log queries

abbrev world_of : Reached → State
world_of v = v.world

-- the world in which a query was asked, the one in which it is answered, and the one behind
record IsQueried (query : Query) (w v : State) (answer : Answer) : Type 0 where
  asked : Reached
  outcome : Outcome
  asks : Happens (event.Ask query) w asked (Ok outcome)
  number : ℕ
  numbered : asked_in outcome ≡ Some number
  answered : IsAnsweredBehind asked.world v number answer

queried : (query : Query) (w : State) (v : Reached) (answer : Answer) → Queries query w v (Ok answer) → IsQueried query w v.world answer
queried query w v answer h =
    let t = was_then (Happens (event.Ask query)) (λ outcome. ByNumber (asked_in outcome)) w v answer h in
    let n = by_number (asked_in t.told) t.between.world t.last answer t.further in
    record {
      asked = t.between;
      outcome = t.told;
      asks = t.came;
      number = n.0;
      numbered = n.1;
      answered = subst (λ (x : State). IsAnsweredBehind t.between.world x n.0 answer) (sym (ap world_of t.whole)) n.2;
    }

module _ (query : Query) (w v : State) (answer : Answer) (safe : IsSafeWorld w) (fits : FitsLine w.setup.schema (line.Macro (macro.Query query)))
    (q : IsQueried query w v answer) where
  leads_there : Leads w (happens (event.Ask query) q.outcome ∷ q.answered.turns) q.answered.world
  leads_there = (q.asked.world, (fits, q.asks.by.0), leads_by silently.turn q.answered.turns q.asked.world q.answered.world q.answered.led)

  asked_there : LeavesAs w q.answered.world w.log (λ queries. queries ++ query ∷ [])
  asked_there =
      then_leaves w q.asked.world q.answered.world w.log (λ queries. queries ++ query ∷ [])
      (let first = event_happened (event.Ask query) w q.asked q.outcome q.asks in record { log = first.log; queries = first.queries })
      (silence_leaves q.answered.turns q.asked.world q.answered.world q.answered.led)

  answer_leaves : AsBefore q.answered.world v
  answer_leaves =
      let leaves = event_leaves q.answered.world q.answered.last (came.Answered answer) (event.Answer q.number) q.answered.steps in
      record {
        log = ap (λ (z : State). z.log) q.answered.same ∙ leaves.log;
        queries = λ queries k. subst (λ (z : State). AreAsked z queries) (sym q.answered.same) (leaves.queries queries k);
      }

  query_leaves : LeavesAs w v w.log (λ queries. queries ++ query ∷ [])
  query_leaves = then_leaves w q.answered.world v w.log (λ queries. queries ++ query ∷ []) asked_there answer_leaves

  setup_there : q.answered.world.setup ≡ w.setup
  setup_there = (leads_on w (happens (event.Ask query) q.outcome ∷ q.answered.turns) q.answered.world safe leads_there).setup

  safe_there : IsSafeWorld q.answered.world
  safe_there = leads_safe w (happens (event.Ask query) q.outcome ∷ q.answered.turns) q.answered.world safe leads_there

  query_counts : (queries : List Query) (text : List ℕ) → AreAsked w queries → text ≡ answer_line answer → CountsProduced w.setup.schema w.log query text
  query_counts queries text k same =
      let told = answer_told q.answered.world q.number q.answered.last (came.Answered answer) (queries ++ query ∷ []) safe_there (asked_there.queries queries k) q.answered.steps in
      let number : q.number ≡ length queries = asked_number w q.asked.world query q.outcome q.number q.asks.by.0 q.numbered ∙ k.count in
      let own : told.2.query ≡ query = same_some told.2.query query (sym told.2.asked ∙ ap (slice_get (queries ++ query ∷ [])) number ∙ slice_get-push queries query) in
      let counts = told.2.counts text (same ∙ ap (λ a. answer_line a) (same_answer answer told.0 told.1)) in
      subst (λ (s : Setup). CountsProduced s.schema w.log query text) setup_there
      (subst (λ (l : Log). CountsProduced q.answered.world.setup.schema l query text) asked_there.log
      (subst (λ (x : Query). CountsProduced q.answered.world.setup.schema q.answered.world.log x text) own counts))
    where
      same_some : (a b : Query) → (let some : Query → Option Query = λ x. Some x in some a ≡ some b) → a ≡ b
      same_some a b e = cc

      same_answer : (a b : Answer) → came.Answered a ≡ came.Answered b → a ≡ b
      same_answer a b e = cc

query_reads : (query : Query) (w : State) (v : Reached) (text : List ℕ) → IsSafeWorld w → FitsLine w.setup.schema (line.Macro (macro.Query query))
    → QueryTold query w v (Ok text) → LineReads (line.Macro (macro.Query query)) w v.world text
query_reads query w v text safe fits h =
    let t = was_then (Queries query) (λ answer. Gives (answer_line answer)) w v text h in
    let q = queried query w t.between t.told t.came in
    let same : v.world ≡ t.between.world = ap world_of t.whole ∙ ap world_of t.further.0 in
    let leaves = query_leaves query w t.between.world t.told safe fits q in
    record {
      log = ap (λ (z : State). z.log) same ∙ leaves.log;
      queries = λ queries k. subst (λ (z : State). AreAsked z (queries ++ query ∷ [])) (sym same) (leaves.queries queries k);
      answers = λ queries k. query_counts query w t.between.world t.told safe fits q queries text k (same_told text (answer_line t.told) t.further.1);
    }

-- ---- a fill

-- a message more
filled_one : (p : Partition) (n : ℕ) (w : State) (v : Reached) → FillsOne p n tt w v (Ok tt)
    → LeavesAs w v.world (produced_behind (Some (line.Event (event.Produce p (numbered_text (length_of w p))))) w.log) (λ queries. queries)
filled_one p n w v h =
    let e = event.Produce p (numbered_text (length_of w p)) in
    let t = was_then (Happens e) (λ outcome. Gives tt) w v tt h in
    let same : v.world ≡ t.between.world = ap world_of t.whole ∙ ap world_of t.further.0 in
    let first = event_happened e w t.between t.told t.came in
    record {
      log = ap (λ (z : State). z.log) same ∙ first.log;
      queries = λ queries k. subst (λ (z : State). AreAsked z queries) (sym same) (first.queries queries k);
    }

filled_all : (p : Partition) (count first : ℕ) (w : State) (v : Reached) → EachFrom (FillsOne p) first count tt w v (Ok tt)
    → LeavesAs w v.world (filled w.log p count) (λ queries. queries)
filled_all p zero first w v h = record {
  log = ap (λ (z : Reached). z.world.log) h.0;
  queries = λ queries k. subst (λ (z : State). AreAsked z queries) (sym (ap world_of h.0)) k;
}
filled_all p (suc count) first w v h =
    let t = was_then (FillsOne p first tt) (EachFrom (FillsOne p) (first + 1) count) w v tt h in
    let one = filled_one p first w t.between t.came in
    let others = filled_all p count (first + 1) t.between.world t.last t.further in
    let same = ap world_of t.whole in
    record {
      log = ap (λ (z : State). z.log) same ∙ others.log ∙ ap (λ l. filled l p count) one.log;
      queries = λ queries k. subst (λ (z : State). AreAsked z queries) (sym same) (others.queries queries (one.queries queries k));
    }

fill_leaves : (p : Partition) (count : ℕ) (w : State) (v : Reached) (b none : Bool) (y : Offset)
    → Choose b (Choose none (Refuses NothingToDo w) (Then (EachFrom (FillsOne p) 0 count tt) (TellsLength p) w)) (Refuses NoSuchNode w) v (Ok y)
    → LeavesAs w v.world (filled w.log p count) (λ queries. queries)
fill_leaves p count w v true true y h = absurd (told_or y NothingToDo h.1)
fill_leaves p count w v true false y h =
    let t = was_then (EachFrom (FillsOne p) 0 count tt) (TellsLength p) w v y h in
    let all = filled_all p count 0 w t.between t.came in
    let same : v.world ≡ t.between.world = ap world_of t.whole ∙ ap world_of t.further.0 in
    record {
      log = ap (λ (z : State). z.log) same ∙ all.log;
      queries = λ queries k. subst (λ (z : State). AreAsked z queries) (sym same) (all.queries queries k);
    }
fill_leaves p count w v false none y h = absurd (told_or y NoSuchNode h.1)

fill_reads : (p : Partition) (count : ℕ) (w : State) (v : Reached) (text : List ℕ) → FillTold p count w v (Ok text)
    → LineReads (line.Macro (macro.Fill p count)) w v.world text
fill_reads p count w v text h =
    let t = was_then (Fills p count) (λ length. Gives (filled_text p length)) w v text h in
    let all = fill_leaves p count w t.between (nat_lt p.0 w.setup.partitions) (count == 0) t.told t.came in
    let same : v.world ≡ t.between.world = ap world_of t.whole ∙ ap world_of t.further.0 in
    record {
      log = ap (λ (z : State). z.log) same ∙ all.log;
      queries = λ queries k. subst (λ (z : State). AreAsked z queries) (sym same) (all.queries queries k);
      answers = λ queries k. tt;
    }

-- ---- an event

-- what is told of an event but for an answer is read no further
reads_on : (e : Event) (o : Outcome) (w v : State) (text : List ℕ) → IsSafeWorld w → Steps w e v (Ok o) → text ≡ outcome_text e o → (queries : List Query) → AreAsked w queries
    → AnswersHere w.setup.schema (Some (line.Event e)) text w.log queries
reads_on (event.Answer number) o w v text safe steps same queries k =
    let told = answer_told w number v o queries safe k steps in
    (told.2.query, told.2.asked, told.2.counts text (same ∙ ap (λ x. outcome_text (event.Answer number) x) told.1))
reads_on e o w v text safe steps same queries k = tt

event_reads : (e : Event) (w : State) (v : Reached) (text : List ℕ) → IsSafeWorld w → EventTold e w v (Ok text) → LineReads (line.Event e) w v.world text
event_reads e w v text safe h =
    let t = was_then (Happens e) (λ outcome. Gives (outcome_text e outcome)) w v text h in
    let leaves = event_happened e w t.between t.told t.came in
    let same : v.world ≡ t.between.world = ap world_of t.whole ∙ ap world_of t.further.0 in
    record {
      log = ap (λ (z : State). z.log) same ∙ leaves.log;
      queries = λ queries k. subst (λ (z : State). AreAsked z (asked_behind (Some (line.Event e)) queries)) (sym same) (leaves.queries queries k);
      answers = λ queries k. reads_on e t.told w t.between.world text safe t.came.by.0 (same_told text (outcome_text e t.told) t.further.1) queries k;
    }

held_reads : (e : Event) (paused : Bool) (w : State) (at : Instance × Partition × Sequence) (text : List ℕ) → held_by w paused e ≡ Some at
    → (queries : List Query) → AnswersHere w.setup.schema (Some (line.Event e)) text w.log queries
held_reads (event.Answer number) paused w at text e queries = absurd (cc)
held_reads other paused w at text e queries = tt

unless_reads : (held : Option (Instance × Partition × Sequence)) (e : Event) (paused : Bool) (w : State) (v : Reached) (text : List ℕ) → IsSafeWorld w
    → held_by w paused e ≡ held → UnlessHeld held e w v (Ok text) → LineReads (line.Event e) w v.world text
unless_reads None e paused w v text safe none h = event_reads e w v text safe h
unless_reads (Some at) e paused w v text safe so h = record {
  log = ap (λ (z : Reached). z.world.log) h.0 ∙ sym (held_log e paused w at w.log so);
  queries = λ queries k.
      subst (λ (z : State). AreAsked z (asked_behind (Some (line.Event e)) queries)) (sym (ap world_of h.0))
      (subst (AreAsked w) (sym (held_queries e paused w at queries so)) k);
  answers = λ queries k. held_reads e paused w at text so queries;
}

-- ---- a line

-- a line that makes silent turns alone
silent_reads : (said : Line) (w : State) (v : Reached) (text : List ℕ) → LeadsBy silently.turn w v.turns v.world → ((log : Log) → produced_behind (Some said) log ≡ log)
    → ((queries : List Query) → asked_behind (Some said) queries ≡ queries) → ((queries : List Query) → AnswersHere w.setup.schema (Some said) text w.log queries)
    → LineReads said w v.world text
silent_reads said w v text led log same answers =
    let leaves = silence_leaves v.turns w v.world led in
    record {
      log = leaves.log ∙ sym (log w.log);
      queries = λ queries k. subst (AreAsked v.world) (sym (same queries)) (leaves.queries queries k);
      answers = λ queries k. answers queries;
    }

-- what was told beside a desk
pub record IsBeside (act : Act (List ℕ)) (w : State) (v : Reached) (text : List ℕ) : Type 0 where
  pub between : Reached
  pub came : act w between (Ok text)
  pub same : v.world ≡ between.world

pub beside : (act : Act (List ℕ)) (desk after : Desk) (w : State) (v : Reached) (text : List ℕ) → Beside desk act w v (Ok (told after text)) → IsBeside act w v text
beside act desk after w v text h =
    let t = was_then act (λ x. Gives (told desk x)) w v (told after text) h in
    let own : text ≡ t.told = ap (λ (x : Told). x.text) (same_told (told after text) (told desk t.told) t.further.1) in
    record {
      between = t.between;
      came = subst (λ (x : List ℕ). act w t.between (Ok x)) (sym own) t.came;
      same = ap world_of t.whole ∙ ap world_of t.further.0;
    }

-- behind the desk stands what was told
beside_reads : (said : Line) (act : Act (List ℕ)) (desk after : Desk) (w : State) (v : Reached) (text : List ℕ) → Beside desk act w v (Ok (told after text))
    → ((u : Reached) → act w u (Ok text) → LineReads said w u.world text) → LineReads said w v.world text
beside_reads said act desk after w v text h f =
    let b = beside act desk after w v text h in subst (λ (z : State). LineReads said w z text) (sym b.same) (f b.between b.came)

pub line_reads : (said : Line) (desk after : Desk) (w : State) (v : Reached) (text : List ℕ) → IsSafeWorld w → FitsLine w.setup.schema said
    → LineTold said desk w v (Ok (told after text)) → LineReads said w v.world text
line_reads (line.Event e) desk after w v text safe fits h =
    beside_reads (line.Event e) (EventLineTold desk.pause e) desk after w v text h
    (λ u came. unless_reads (held_by w desk.pause e) e desk.pause w u text safe refl came)
line_reads (line.Macro (macro.Query query)) desk after w v text safe fits h =
    beside_reads (line.Macro (macro.Query query)) (MacroTold desk.pause (macro.Query query)) desk after w v text h (λ u came. query_reads query w u text safe fits came)
line_reads (line.Macro (macro.Fill p count)) desk after w v text safe fits h =
    beside_reads (line.Macro (macro.Fill p count)) (MacroTold desk.pause (macro.Fill p count)) desk after w v text h (λ u came. fill_reads p count w u text came)
line_reads (line.Macro (macro.Exchange i p q c)) desk after w v text safe fits h =
    silent_reads (line.Macro (macro.Exchange i p q c)) w v text (line_goes (line.Macro (macro.Exchange i p q c)) desk silently w fits tt v _ h) (λ log. refl) (λ queries. refl)
    (λ queries. tt)
line_reads (line.Macro (macro.Settle rounds)) desk after w v text safe fits h =
    silent_reads (line.Macro (macro.Settle rounds)) w v text
    (line_goes (line.Macro (macro.Settle rounds)) desk silently w fits (λ i segment max u ready o. tt) v _ h) (λ log. refl) (λ queries. refl) (λ queries. tt)
line_reads (line.NoQuery number) desk after w v text safe fits h =
    silent_reads (line.NoQuery number) w v text (line_goes (line.NoQuery number) desk silently w fits tt v _ h) (λ log. refl) (λ queries. refl) (λ queries. tt)
line_reads (line.Further further) desk after w v text safe fits h =
    silent_reads (line.Further further) w v text (line_goes (line.Further further) desk silently w fits tt v _ h) (λ log. refl) (λ queries. refl) (λ queries. tt)
