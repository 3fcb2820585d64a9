-- `fill` and `query` have one outcome: what they go through of two alike worlds is alike, since all that they look at is what the worlds show.
use Rattle.std.proofs.Common.{◌≡◌, ℕ, Bool, true, false, Option, Some, None, ◌==◌, nat_lt, refl, ap, subst}
use Rattle.rt_base.specs.declared.numbers.Partition.{Partition}
use Rattle.rt_assign.specs.Placement.{replica_of}
use Rattle.rt_events.specs.declared.event.Event.{Event}
use Rattle.rt_events.specs.declared.event.Event.TheVariants as event
use Rattle.rt_events.specs.declared.refusal.Refusal.TheVariants.{NoSuchNode, NothingToDo}
use Rattle.rt_model.specs.Checked.{IsQuery}
use Rattle.rt_model.specs.declared.answer.Answer.{Answer}
use Rattle.rt_model.specs.declared.piece.Piece.{Piece}
use Rattle.rt_model.specs.declared.query.Query.{Query}
use Rattle.rt_model.specs.declared.setup.Setup.{Setup}
use Rattle.rt_macros.specs.Doing.{EachFrom, Gives, Happens, Passed, Then}
use Rattle.rt_macros.specs.Filling.{FillTold, Fills, FillsOne, TellsLength, numbered_text}
use Rattle.rt_macros.specs.Outcomes.{answer_in, asked_in, is_served}
use Rattle.rt_macros.specs.Querying.{AfterAsking, AnswersNow, AsksAll, AsksAndAnswers, AsksNow, AsksOne, AsksPartition, AsksPiece, AsksReplicas, ByNumber, GivesAnswer, Queries, QueryTold, RoutesAll, RoutesOne, TellsServed}
use Rattle.rt_report.specs.BrokerTexts.{answer_line}
use Rattle.rt_report.specs.MacroTexts.{filled_text}
use Rattle.rt_world.specs.Reading.{length_of, pieces_of}
use Rattle.rt_state.specs.declared.state.State.{State}
use Rattle.rt_exact.specs.Acts.{AreOne}
use Rattle.rt_exact.specs.Alike.{AreAlike}
use Rattle.rt_exact.specs.Reads.{ReadAlike}
use Rattle.rt_exact.proofs.Acts.{choose_one, each_from_one, each_one, gives_one, happens_one, passed_one, refuses_one, then_one}
use Rattle.rt_exact.proofs.Reading.{read_alike}

module _ (w v : State) (k : AreAlike w v) where
  pub reads : ReadAlike w v
  reads = read_alike w v k.same

  pub setups : w.setup ≡ v.setup
  setups = ap (λ (u : State). u.setup) k.same

-- ---- fill

fills_one : (p : Partition) (n : ℕ) (done : Unit {0}) (w v : State) → AreAlike w v → AreOne (FillsOne p n done w) (FillsOne p n done v)
fills_one p n done w v k x y r s h g =
    let text = ap (λ o. numbered_text o) ((reads w v k).lengths p) in
    passed_one (event.Produce p (numbered_text (length_of v p))) w v k tt x y r s
    (subst (λ t. Passed (event.Produce p t) w x r) text h) g

fills_all : (p : Partition) (n : ℕ) (w v : State) → AreAlike w v → AreOne (Fills p n w) (Fills p n v)
fills_all p n w v k =
    choose_one (nat_lt p.0 w.setup.partitions) (nat_lt p.0 v.setup.partitions) _ _ _ _ (ap (λ (s : Setup). nat_lt p.0 s.partitions) (setups w v k))
    (choose_one (n == 0) (n == 0) _ _ _ _ refl (refuses_one NothingToDo w v k)
    (then_one (EachFrom (FillsOne p) 0 n tt) (EachFrom (FillsOne p) 0 n tt) (TellsLength p) (TellsLength p) w v
    (each_from_one (FillsOne p) (FillsOne p) 0 n n tt w v k refl (λ m d u t l. fills_one p m d u t l))
    (λ d u t l. gives_one (length_of u p) (length_of t p) u t l ((reads u t l).lengths p))))
    (refuses_one NoSuchNode w v k)

pub fill_one : (p : Partition) (n : ℕ) (w v : State) → AreAlike w v → AreOne (FillTold p n w) (FillTold p n v)
fill_one p n w v k =
    then_one (Fills p n) (Fills p n) (λ length. Gives (filled_text p length)) (λ length. Gives (filled_text p length)) w v (fills_all p n w v k)
    (λ length u t l. gives_one (filled_text p length) (filled_text p length) u t l refl)

-- ---- query

asks_now_one : (number : ℕ) (piece : Piece) (n : ℕ) (w v : State) → AreAlike w v → AreOne (AsksNow number piece n w) (AsksNow number piece n v)
asks_now_one number piece n w v k x y r s h g =
    let asked : Setup → Event = λ c. event.Piece number piece.partition piece.sequence (replica_of piece.partition c.table.replication c.servers n) in
    then_one (Happens (asked v.setup)) (Happens (asked v.setup)) TellsServed TellsServed w v (happens_one (asked v.setup) w v k tt)
    (λ outcome u t l. gives_one (is_served outcome) (is_served outcome) u t l refl) x y r s
    (subst (λ c. Then (Happens (asked c)) TellsServed w x r) (setups w v k) h) g

asks_one : (number : ℕ) (piece : Piece) (n : ℕ) (served : Bool) (w v : State) → AreAlike w v → AreOne (AsksOne number piece n served w) (AsksOne number piece n served v)
asks_one number piece n true w v k = gives_one true true w v k refl
asks_one number piece n false w v k = asks_now_one number piece n w v k

asks_piece_one : (number : ℕ) (piece : Piece) (done : Unit {0}) (w v : State) → AreAlike w v → AreOne (AsksPiece number piece done w) (AsksPiece number piece done v)
asks_piece_one number piece done w v k =
    then_one (AsksReplicas number piece) (AsksReplicas number piece) (λ served. Gives tt) (λ served. Gives tt) w v
    (each_from_one (AsksOne number piece) (AsksOne number piece) 0 w.setup.table.replication v.setup.table.replication false w v k
    (ap (λ (s : Setup). s.table.replication) (setups w v k)) (λ n served u t l. asks_one number piece n served u t l))
    (λ served u t l. gives_one tt tt u t l refl)

asks_partition_one : (number at : ℕ) (done : Unit {0}) (w v : State) → AreAlike w v → AreOne (AsksPartition number at done w) (AsksPartition number at done v)
asks_partition_one number at done w v k =
    each_one (AsksPiece number) (AsksPiece number) (pieces_of w number (record { 0 = at })) (pieces_of v number (record { 0 = at })) done w v k
    ((reads w v k).pieces number (record { 0 = at })) (λ piece d u t l. asks_piece_one number piece d u t l)

asks_all_one : (number : ℕ) (w v : State) → AreAlike w v → AreOne (AsksAll number w) (AsksAll number v)
asks_all_one number w v k =
    each_from_one (AsksPartition number) (AsksPartition number) 0 w.setup.partitions v.setup.partitions tt w v k
    (ap (λ (s : Setup). s.partitions) (setups w v k)) (λ at d u t l. asks_partition_one number at d u t l)

gives_answer_one : (o : Option Answer) (w v : State) → AreAlike w v → AreOne (GivesAnswer o w) (GivesAnswer o v)
gives_answer_one (Some answer) w v k = gives_one answer answer w v k refl
gives_answer_one None w v k = refuses_one NothingToDo w v k

answers_one : (number : ℕ) (w v : State) → AreAlike w v → AreOne (AnswersNow number w) (AnswersNow number v)
answers_one number w v k =
    then_one (Happens (event.Answer number)) (Happens (event.Answer number)) (λ outcome. GivesAnswer (answer_in outcome)) (λ outcome. GivesAnswer (answer_in outcome)) w v
    (happens_one (event.Answer number) w v k tt) (λ outcome u t l. gives_answer_one (answer_in outcome) u t l)

routes_all_one : (number : ℕ) (w v : State) → AreAlike w v → AreOne (RoutesAll number w) (RoutesAll number v)
routes_all_one number w v k =
    each_from_one (RoutesOne number) (RoutesOne number) 0 w.setup.partitions v.setup.partitions tt w v k
    (ap (λ (s : Setup). s.partitions) (setups w v k)) (λ at d u t l. passed_one (event.Route number (record { 0 = at })) u t l tt)

after_asking_one : (number : ℕ) (w v : State) → AreAlike w v → AreOne (AfterAsking number w) (AfterAsking number v)
after_asking_one number w v k =
    then_one (RoutesAll number) (RoutesAll number) (λ done. AsksAndAnswers number) (λ done. AsksAndAnswers number) w v (routes_all_one number w v k)
    (λ done u t l.
    then_one (AsksAll number) (AsksAll number) (λ d. AnswersNow number) (λ d. AnswersNow number) u t (asks_all_one number u t l) (λ d a b m. answers_one number a b m))

by_number_one : (o : Option ℕ) (w v : State) → AreAlike w v → AreOne (ByNumber o w) (ByNumber o v)
by_number_one (Some number) w v k = after_asking_one number w v k
by_number_one None w v k = refuses_one NothingToDo w v k

pub query_one : (query : Query) (w v : State) → AreAlike w v → IsQuery w.setup.schema query → AreOne (QueryTold query w) (QueryTold query v)
query_one query w v k fits =
    then_one (Queries query) (Queries query) (λ answer. Gives (answer_line answer)) (λ answer. Gives (answer_line answer)) w v
    (then_one (Happens (event.Ask query)) (Happens (event.Ask query)) (λ outcome. ByNumber (asked_in outcome)) (λ outcome. ByNumber (asked_in outcome)) w v
    (happens_one (event.Ask query) w v k fits) (λ outcome u t l. by_number_one (asked_in outcome) u t l))
    (λ answer u t l. gives_one (answer_line answer) (answer_line answer) u t l refl)
