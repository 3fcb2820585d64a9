-- `query TEXT`: a query is asked, routed to each partition, each piece is asked for at its replicas until one serves it, and
-- the query is answered.
use Rattle.std.specs.Prelude.{ℕ, Bool, true, false, List, Option, None, Some}
use Rattle.rt_assign.specs.Placement.{replica_of}
use Rattle.rt_events.specs.declared.event.Event.TheVariants.{Ask, Route, Piece as AskPiece, Answer as GiveAnswer}
use Rattle.rt_events.specs.declared.outcome.Outcome.{Outcome}
use Rattle.rt_events.specs.declared.refusal.Refusal.TheVariants.{NothingToDo}
use Rattle.rt_model.specs.declared.answer.Answer.{Answer}
use Rattle.rt_model.specs.declared.piece.Piece.{Piece}
use Rattle.rt_model.specs.declared.query.Query.{Query}
use Rattle.rt_macros.specs.Doing.{Act, Each, EachFrom, Gives, Happens, Passed, Refuses, Then}
use Rattle.rt_macros.specs.Outcomes.{answer_in, asked_in, is_served}
use Rattle.rt_report.specs.BrokerTexts.{answer_line}
use Rattle.rt_world.specs.Reading.{pieces_of}

abbrev pub RoutesOne : ℕ → ℕ → Unit {0} → Act (Unit {0})
RoutesOne number at done w = Passed (Route number (record { 0 = at })) w

abbrev pub RoutesAll : ℕ → Act (Unit {0})
RoutesAll number w = EachFrom (RoutesOne number) 0 w.setup.partitions tt w

abbrev pub TellsServed : Outcome → Act Bool
TellsServed outcome w = Gives (is_served outcome) w

abbrev pub AsksNow : ℕ → Piece → ℕ → Act Bool
AsksNow number piece k w =
    Then (Happens (AskPiece number piece.partition piece.sequence (replica_of piece.partition w.setup.table.replication w.setup.servers k)))
    TellsServed w

-- one of the replicas is asked for a piece, where it isn't served yet
abbrev pub AsksOne : ℕ → Piece → ℕ → Bool → Act Bool
AsksOne number piece k true w = Gives true w
AsksOne number piece k false w = AsksNow number piece k w

abbrev pub AsksReplicas : ℕ → Piece → Act Bool
AsksReplicas number piece w = EachFrom (AsksOne number piece) 0 w.setup.table.replication false w

abbrev pub AsksPiece : ℕ → Piece → Unit {0} → Act (Unit {0})
AsksPiece number piece done w = Then (AsksReplicas number piece) (λ served. Gives tt) w

abbrev pub AsksPartition : ℕ → ℕ → Unit {0} → Act (Unit {0})
AsksPartition number at done w = Each (AsksPiece number) (pieces_of w number (record { 0 = at })) done w

abbrev pub AsksAll : ℕ → Act (Unit {0})
AsksAll number w = EachFrom (AsksPartition number) 0 w.setup.partitions tt w

abbrev pub GivesAnswer : Option Answer → Act Answer
GivesAnswer (Some answer) w = Gives answer w
GivesAnswer None w = Refuses NothingToDo w

abbrev pub AnswersNow : ℕ → Act Answer
AnswersNow number w = Then (Happens (GiveAnswer number)) (λ outcome. GivesAnswer (answer_in outcome)) w

abbrev pub AsksAndAnswers : ℕ → Act Answer
AsksAndAnswers number w = Then (AsksAll number) (λ done. AnswersNow number) w

abbrev pub AfterAsking : ℕ → Act Answer
AfterAsking number w = Then (RoutesAll number) (λ done. AsksAndAnswers number) w

abbrev pub ByNumber : Option ℕ → Act Answer
ByNumber (Some number) w = AfterAsking number w
ByNumber None w = Refuses NothingToDo w

abbrev pub Queries : Query → Act Answer
Queries query w = Then (Happens (Ask query)) (λ outcome. ByNumber (asked_in outcome)) w

-- the line that is reported
abbrev pub QueryTold : Query → Act (List ℕ)
QueryTold query w = Then (Queries query) (λ answer. Gives (answer_line answer)) w
