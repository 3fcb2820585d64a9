-- What the broker of a running cluster can say by itself: of what its fronts have seen, and of its answers.
use Rattle.std.specs.Prelude.{◌≡◌, ℕ, List, [], All, map, slice_get, Option, Some, None}
use Rattle.rt_base.specs.declared.numbers.Partition.{Partition}
use Rattle.rt_base.specs.declared.numbers.Sequence.{Sequence}
use Rattle.rt_broker.specs.Answering.{AreServed, IsMissing, routed_of}
use Rattle.rt_broker.specs.Asking.{Asking, route_at}
use Rattle.rt_broker.specs.IsAskedBy.{Given, IsAskedBy}
use Rattle.rt_broker.specs.declared.piece_asked.PieceAsked.{PieceAsked}
use Rattle.rt_broker.specs.declared.piece_given.PieceGiven.{PieceGiven}
use Rattle.rt_broker.specs.declared.route.Route.TheVariants.{Failed, Planned}
use Rattle.rt_front.specs.Histories.{Known}
use Rattle.rt_ground.specs.Histories.{whats}
use Rattle.rt_lists.specs.Members.{Has, IsFront}
use Rattle.rt_model.specs.Metadata.{metadata_of}
use Rattle.rt_model.specs.Plan.{plan_of}
use Rattle.rt_model.specs.RightAnswer.{IsRightAnswer, missing_of, named_ranges}
use Rattle.rt_model.specs.declared.answer.Answer.{Answer}
use Rattle.rt_model.specs.declared.node.Seen.{Seen}
use Rattle.rt_past.specs.Past.{Past}
use Rattle.rt_schema.specs.declared.schema.Schema.{Schema}
use Rattle.rt_live_names.specs.Fronts.{Fronts, AreOfCaller, broker_caller, own_files, own_messages, own_writes, viewed}
use Rattle.rt_live_names.specs.Names.{Names}

-- an answer, with the asking that it ends
pub record Answered : Type 0 where
  -- the query, by its place in the input, and which asking of it this was
  pub query : ℕ
  pub asking : ℕ
  -- what the store showed the broker as this asking began
  pub began : List Seen
  pub asked : Asking
  pub answer : Answer

pub record BrokerPart : Type 0 where
  pub fronts : Fronts
  -- what each server told it that it gave, by the server's number
  pub fed : List (Known PieceGiven)
  -- the answers that are printed at the end, and the first answers, each in the order of the queries
  pub answers : List Answered
  pub mids : List Answered

abbrev pub given_in : Option (Known PieceGiven) → List PieceGiven
given_in None = []
given_in (Some front) = whats front.seen

abbrev pub given_by : List (Known PieceGiven) → Given
given_by fed i = given_in (slice_get fed i)

abbrev pub broker_view : Names → Fronts → Past
broker_view n f = viewed n.setup f [] []

-- the answer is made of what was asked
pub record IsAnswerOf (a : Asking) (answer : Answer) : Type 0 where
  pub ranges : answer.ranges ≡ named_ranges (routed_of a)
  pub missing : answer.missing ≡ missing_of (routed_of a)
  pub right :
      (schema : Schema) (log : List (List (List ℕ))) → AreServed schema log a
      → IsRightAnswer schema log a.query (routed_of a) answer
  pub causes : (p : Partition) (s : Option Sequence) → Has answer.missing (p, s) → IsMissing a p s

-- each plan is that of a metadata list which has all that the store had shown before
pub record IsPlanSince (began history : List Seen) (p : Partition) (xs : List PieceAsked) : Type 0 where
  pub seen : List Seen
  pub since : IsFront began seen
  pub front : IsFront seen history
  pub plan : map (λ x. x.piece) xs ≡ plan_of p (metadata_of seen p)

abbrev pub ArePlansSince : List Seen → List Seen → Asking → Type 0
ArePlansSince began history a =
    (p : Partition) (xs : List PieceAsked) → slice_get a.routes p.0 ≡ Some (Planned xs) → IsPlanSince began history p xs

pub record IsAnswered (n : Names) (f : Fronts) (fed : List (Known PieceGiven)) (x : Answered) : Type 0 where
  pub query : slice_get n.queries x.query ≡ Some x.asked.query
  pub asked : IsAskedBy n.setup (broker_view n f) (given_by fed) x.query x.asking x.asked
  pub since : ArePlansSince x.began (broker_view n f).history x.asked
  -- its store met no fault, so that each partition has its plan
  pub tried : (p : Partition) → route_at x.asked p ≡ Some Failed → ⊥
  pub answer : IsAnswerOf x.asked x.answer

pub record IsBrokerPart (n : Names) (a : BrokerPart) : Type 0 where
  pub caller : AreOfCaller (broker_caller n.setup) a.fronts
  pub answers : All (IsAnswered n a.fronts a.fed) a.answers
  pub mids : All (IsAnswered n a.fronts a.fed) a.mids
  -- it writes nothing, puts nothing and appends nothing
  pub writes : own_writes a.fronts ≡ []
  pub puts : own_files a.fronts ≡ []
  pub appends : own_messages a.fronts ≡ []
