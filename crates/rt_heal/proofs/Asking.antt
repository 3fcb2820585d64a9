-- A query over a world that no event has changed since is answered by its present plans, and by what servers have.
use Rattle.std.proofs.Common.{◌≡◌, ℕ, zero, suc, ◌+◌, ◌≤◌, Bool, true, false, List, [], ◌∷◌, Option, Result, Ok, sym, ◌∙◌, ap, subst, arith, length}
use Rattle.std.proofs.lemmas.Option.{same_Some}
use Rattle.rt_assign.specs.Placement.{replica_of}
use Rattle.rt_broker.specs.Asking.{Asking}
use Rattle.rt_events.specs.declared.event.Event.TheVariants as event
use Rattle.rt_events.specs.declared.outcome.Outcome.{Outcome}
use Rattle.rt_events.specs.declared.outcome.Outcome.TheVariants as told
use Rattle.rt_events.specs.declared.refusal.Refusal.{Refusal}
use Rattle.rt_macros.specs.Doing.{Act, Each, EachFrom, Gives as Nothing, Happens, Reached, Then}
use Rattle.rt_macros.specs.Querying.{AnswersNow, AsksAll, AsksAndAnswers, AsksNow, AsksOne, AsksPartition, AsksPiece, AsksReplicas, ByNumber, GivesAnswer, Queries, RoutesAll, RoutesOne, TellsServed}
use Rattle.rt_macros.specs.Outcomes.{answer_in, asked_in}
use Rattle.rt_model.specs.Aggregate.{aggregate}
use Rattle.rt_model.specs.Checked.{IsQuery}
use Rattle.rt_model.specs.RightAnswer.{rows_of}
use Rattle.rt_model.specs.declared.answer.Answer.{Answer}
use Rattle.rt_model.specs.declared.piece.Piece.{Piece}
use Rattle.rt_model.specs.declared.query.Query.{Query}
use Rattle.rt_model.specs.declared.setup.Setup.{Setup}
use Rattle.rt_state.specs.Finding.{query_in}
use Rattle.rt_safety.proofs.Answering.{answers_right}
use Rattle.rt_state.specs.IsSafeWorld.{IsSafeWorld}
use Rattle.rt_state.specs.Queries.{AnswersAt, IsAnswerOf}
use Rattle.rt_state.specs.declared.state.State.{State}
use Rattle.rt_stream.specs.Log.{Log}
use Rattle.rt_world.specs.Reading.{pieces_of}
use Rattle.rt_world.specs.Step.{Steps}
use Rattle.rt_heal.specs.Answered.{IsAskedNow}
use Rattle.rt_heal.proofs.Noting.{IsUnder, ask_step, piece_step, route_step}
use Rattle.rt_heal.proofs.Quiet.{then_parts}

-- ---- what each event of several keeps, all of them do

abbrev Keeps : {A : Type 0} → (State → Type 0) → Act A → Type 0
Keeps {A} P act = (u : State) (v : Reached) (x : A) → P u → act u v (Ok x) → P v.world

keeps_then : {A B : Type 0} (P : State → Type 0) (first : Act A) (behind : A → Act B) → Keeps P first → ((a : A) → Keeps P (behind a))
    → Keeps P (λ u. Then first behind u)
keeps_then P first behind one more u v x p h =
    let t = then_parts first behind u v x h in
    subst P (sym (ap (λ (y : Reached). y.world) t.whole)) (more t.told t.between.world t.last x (one u t.between t.told p t.came) t.further)

keeps_gives : {A : Type 0} (P : State → Type 0) (a : A) → Keeps P (Nothing a)
keeps_gives P a u v x p h = subst (λ (y : Reached). P y.world) (sym h.0) p

keeps_each : {X S : Type 0} (P : State → Type 0) (act : X → S → Act S) → ((x : X) (s : S) → Keeps P (act x s)) → (xs : List X) (s : S) → Keeps P (Each act xs s)
keeps_each P act keeps [] s = keeps_gives P s
keeps_each P act keeps (x ∷ xs) s = keeps_then P (act x s) (Each act xs) (keeps x s) (λ t. keeps_each P act keeps xs t)

keeps_from : {S : Type 0} (P : State → Type 0) (act : ℕ → S → Act S) → ((i : ℕ) (s : S) → Keeps P (act i s)) → (first count : ℕ) (s : S)
    → Keeps P (EachFrom act first count s)
keeps_from P act keeps first zero s = keeps_gives P s
keeps_from P act keeps first (suc count) s =
    keeps_then P (act first s) (EachFrom act (first + 1) count) (keeps first s) (λ t. keeps_from P act keeps (first + 1) count t)

module _ (w : State) (query : Query) (q : ℕ) where
  -- partitions are routed, one after the other
  routes_all : (first count : ℕ) (u : State) (v : Reached) (x : Unit {0}) → first + count ≤ w.setup.partitions → IsUnder w u query q first
      → EachFrom (RoutesOne q) first count tt u v (Ok x) → IsUnder w v.world query q (first + count)
  routes_all first zero u v x le under h =
      let same : first ≡ first + 0 = omega arith in
      subst (λ (y : Reached). IsUnder w y.world query q (first + 0)) (sym h.0) (subst (IsUnder w u query q) same under)
  routes_all first (suc count) u v x le under h =
      let t = then_parts (RoutesOne q first tt) (EachFrom (RoutesOne q) (first + 1) count) u v x h in
      let r = then_parts (Happens (event.Route q (record { 0 = first }))) (λ outcome. Nothing tt) u t.between t.told t.came in
      let stepped = route_step w u query q first under r.between.world r.told (omega (arith, le)) r.came.by.0 in
      let at : t.between.world ≡ r.between.world = ap (λ (y : Reached). y.world) r.whole ∙ ap (λ (y : Reached). y.world) r.further.0 in
      let next = subst (λ (y : State). IsUnder w y query q (first + 1)) (sym at) stepped in
      let rest = routes_all (first + 1) count t.between.world t.last x (omega (arith, le)) next t.further in
      let same : (first + 1) + count ≡ first + suc count = omega arith in
      subst (λ (y : State). IsUnder w y query q (first + suc count)) (sym (ap (λ (y : Reached). y.world) t.whole)) (subst (IsUnder w t.last.world query q) same rest)

  module _ (k : ℕ) where
    abbrev P : State → Type 0
    P u = IsUnder w u query q k

    asks_now : (piece : Piece) (j : ℕ) → Keeps P (AsksNow q piece j)
    asks_now piece j u v x under h =
        let i = replica_of piece.partition u.setup.table.replication u.setup.servers j in
        let t = then_parts (Happens (event.Piece q piece.partition piece.sequence i)) TellsServed u v x h in
        let next = piece_step w u query q k under t.between.world piece.partition piece.sequence i t.told t.came.by.0 in
        let at : v.world ≡ t.between.world = ap (λ (y : Reached). y.world) t.whole ∙ ap (λ (y : Reached). y.world) t.further.0 in
        subst P (sym at) next

    asks_one : (piece : Piece) (j : ℕ) (served : Bool) → Keeps P (AsksOne q piece j served)
    asks_one piece j true = keeps_gives P true
    asks_one piece j false = asks_now piece j

    asks_piece : (piece : Piece) (done : Unit {0}) → Keeps P (AsksPiece q piece done)
    asks_piece piece done =
        keeps_then P (AsksReplicas q piece) (λ served. Nothing tt)
        (λ u v x. keeps_from P (AsksOne q piece) (asks_one piece) 0 u.setup.table.replication false u v x) (λ served. keeps_gives P tt)

    asks_partition : (at : ℕ) (done : Unit {0}) → Keeps P (AsksPartition q at done)
    asks_partition at done = λ u v x. keeps_each P (AsksPiece q) asks_piece (pieces_of u q (record { 0 = at })) done u v x

    asks_all : Keeps P (AsksAll q)
    asks_all = λ u v x. keeps_from P (AsksPartition q) asks_partition 0 u.setup.partitions tt u v x

-- ---- the answer

abbrev same_told : {A : Type 0} → A → Result A Refusal
same_told x = Ok x

told_is : {A : Type 0} (x y : A) → same_told x ≡ same_told y → x ≡ y
told_is x y e = cc

-- the query that is answered, and its answer
pub record HasAnswered (w : State) (query : Query) (answer : Answer) : Type 0 where
  pub asked : Asking
  pub now : IsAskedNow w asked w.setup.partitions
  pub is : IsAnswerOf asked answer
  pub rows : answer.rows ≡ aggregate query (rows_of w.setup.schema w.log answer.ranges)

answer_step : (w u v : State) (query : Query) (q : ℕ) (outcome : Outcome) (answer : Answer) (x : Reached) → IsUnder w u query q w.setup.partitions
    → Steps u (event.Answer q) v (Ok outcome) → GivesAnswer (answer_in outcome) v x (Ok answer) → HasAnswered w query answer
answer_step w u v query q outcome answer x under (cost, due, h) given =
    let g = subst (λ (o : Option Asking). AnswersAt o u q cost (v, outcome)) (ap query_in under.there) h in
    let is : outcome ≡ told.Answered g.0 = ap (λ (y : State × Outcome). y.1) g.2 in
    let gives = subst (λ (y : Outcome). GivesAnswer (answer_in y) v x (Ok answer)) is given in
    let same : answer ≡ g.0 = told_is answer g.0 gives.1 in
    let so : outcome ≡ told.Answered answer = is ∙ ap (λ (y : Answer). told.Answered y) (sym same) in
    let right = answers_right u v q answer under.same.safe (subst (λ (y : Outcome). Steps u (event.Answer q) v (Ok y)) so (cost, due, h)) in
    let asked : right.asked ≡ under.asked = same_Some right.asked under.asked (sym right.there ∙ ap query_in under.there) in
    record {
      asked = under.asked;
      now = under.now;
      is = subst (IsAnswerOf under.asked) (sym same) g.1;
      rows =
          right.right.rows
          ∙ ap (λ (a : Asking). aggregate a.query (rows_of u.setup.schema u.log answer.ranges)) asked
          ∙ ap (λ (y : Query). aggregate y (rows_of u.setup.schema u.log answer.ranges)) under.of_query
          ∙ ap (λ (y : Setup). aggregate query (rows_of y.schema u.log answer.ranges)) under.same.setup
          ∙ ap (λ (y : Log). aggregate query (rows_of w.setup.schema y answer.ranges)) under.same.log;
    }

pub query_answered : (w : State) (v : Reached) (query : Query) (answer : Answer) → IsSafeWorld w → IsQuery w.setup.schema query → w.store.faults.plan ≡ []
    → Queries query w v (Ok answer) → HasAnswered w query answer
query_answered w v query answer s fits unplanned h =
    let t = then_parts (Happens (event.Ask query)) (λ outcome. ByNumber (asked_in outcome)) w v answer h in
    let asked = ask_step w t.between.world query t.told s fits unplanned t.came.by.0 in
    let q = length w.queries in
    let further = subst (λ (o : Outcome). ByNumber (asked_in o) t.between.world t.last (Ok answer)) asked.0 t.further in
    let r = then_parts (RoutesAll q) (λ done. AsksAndAnswers q) t.between.world t.last answer further in
    let same : t.between.world.setup.partitions ≡ w.setup.partitions = ap (λ (x : Setup). x.partitions) asked.1.same.setup in
    let routed = routes_all w query q 0 t.between.world.setup.partitions t.between.world r.between r.told (omega (arith, same)) asked.1 r.came in
    let count : 0 + t.between.world.setup.partitions ≡ w.setup.partitions = omega (arith, same) in
    let under = subst (IsUnder w r.between.world query q) count routed in
    let a = then_parts (AsksAll q) (λ done. AnswersNow q) r.between.world r.last answer r.further in
    let asks = asks_all w query q w.setup.partitions r.between.world a.between a.told under a.came in
    let n = then_parts (Happens (event.Answer q)) (λ outcome. GivesAnswer (answer_in outcome)) a.between.world a.last answer a.further in
    answer_step w a.between.world n.between.world query q n.told answer n.last asks n.came.by.0 n.further
