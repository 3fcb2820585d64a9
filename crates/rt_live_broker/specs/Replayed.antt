-- What a broker is, by what it did, and what is true of it by what its fronts show.
use Rattle.std.specs.Prelude.{◌≡◌, ℕ, List, [], All, IfSome, Option, Some, None, length, map, slice_get}
use Rattle.std.specs.List.{range_with_len}
use Rattle.rt_base.specs.declared.numbers.Partition.{Partition}
use Rattle.rt_base.specs.declared.range.Range.{Range}
use Rattle.rt_broker.specs.Asking.{Asking, route_at}
use Rattle.rt_broker.specs.IsAskedBy.{Given, IsAskedBy}
use Rattle.rt_broker.specs.declared.piece_given.PieceGiven.{PieceGiven}
use Rattle.rt_broker.specs.declared.route.Route.TheVariants.{Failed}
use Rattle.rt_front.specs.Histories.{Known}
use Rattle.rt_lists.specs.Members.{IsFront}
use Rattle.rt_live_broker.specs.Asks.{Opened}
use Rattle.rt_live_names.specs.Whole.{IsWhole}
use Rattle.rt_live_names.specs.BrokerPart.{Answered, ArePlansSince, IsAnswered, broker_view, given_by}
use Rattle.rt_live_names.specs.Fronts.{Fronts}
use Rattle.rt_live_names.specs.Names.{Names}
use Rattle.rt_live_names.specs.Showed.{Shown, shown_by}
use Rattle.rt_model.specs.declared.node.Seen.{Seen}
use Rattle.rt_store.specs.Contents.{starting_of}

-- a query that is being asked, with what the store had shown the broker as this asking began
pub record Began : Type 0 where
  pub opened : Opened
  pub began : List Seen

pub record Replayed : Type 0 where
  pub current : Option Began
  -- how many askings were begun
  pub askings : ℕ
  -- how much its front showed it of the store
  pub told : ℕ
  pub mids : List Answered
  pub answers : List Answered

-- a broker that did nothing yet
abbrev pub at_first : Replayed
at_first = record { current = None; askings = 0; told = 0; mids = []; answers = [] }

-- what a broker's fronts show
pub record Sight : Type 0 where
  pub store : Shown
  pub given : Given

abbrev pub sight : Names → Fronts → List (Known PieceGiven) → Sight
sight n f fed = record { store = shown_by (starting_of n.setup) f.store; given = given_by fed }

-- the routing of no partition failed
abbrev pub NoneFailed : Asking → Type 0
NoneFailed a = (p : Partition) → route_at a p ≡ Some Failed → ⊥

-- the query that is being asked has been asked rightly so far
pub record IsOpen (n : Names) (f : Fronts) (fed : List (Known PieceGiven)) (o : Began) : Type 0 where
  pub query : slice_get n.queries o.opened.query ≡ Some o.opened.asked.query
  pub asked : IsAskedBy n.setup (broker_view n f) (given_by fed) o.opened.query o.opened.asking o.opened.asked
  pub began : IsFront o.began (broker_view n f).history
  pub since : ArePlansSince o.began (broker_view n f).history o.opened.asked
  pub tried : NoneFailed o.opened.asked

-- answers to the first queries, in their order
abbrev pub AreInOrder : List Answered → Type 0
AreInOrder xs = map (λ x. x.query) xs ≡ range_with_len 0 (length xs)

-- the first answers are those of the first askings: each query was asked once, in their order, and that is answered
abbrev pub AreFirst : List Answered → Type 0
AreFirst xs = All (λ x. x.asking ≡ x.query) xs

pub record IsReplayed (n : Names) (f : Fronts) (fed : List (Known PieceGiven)) (ranges : List (Partition × Range)) (a : Replayed) : Type 0 where
  pub current : IfSome a.current (IsOpen n f fed)
  pub mids : All (IsAnswered n f fed) a.mids
  pub answers : All (IsAnswered n f fed) a.answers
  pub whole : All (λ x. IsWhole ranges x.answer) a.answers
  pub mids_order : AreInOrder a.mids
  pub firsts : AreFirst a.mids
  pub order : AreInOrder a.answers
