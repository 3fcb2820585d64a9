-- A broker, and what its type keeps.
use Rattle.std.specs.Prelude.{◌≡◌, ◌<◌, ℕ, List, [], All, length, Option, map, option_map}
use Rattle.rt_broker.specs.declared.piece_given.PieceGiven.{PieceGiven}
use Rattle.rt_front.specs.Histories.{Known}
use Rattle.rt_live_broker.specs.Asks.{AreAskedOnce, HasFirst, Opened}
use Rattle.rt_live_broker.specs.Feeds.{AreFeeds}
use Rattle.rt_live_broker.specs.Replayed.{AreFirst, AreInOrder, IsReplayed, Replayed, at_first, sight}
use Rattle.rt_live_broker.specs.Steps.{BrokerStep}
use Rattle.rt_live_names.specs.Whole.{IsWhole, whole_ranges}
use Rattle.rt_live_broker.specs.declared.asks.Asks.{Asks}
use Rattle.rt_live_broker.specs.declared.did.BrokerDid.{BrokerDid}
use Rattle.rt_live_names.specs.BrokerPart.{BrokerPart, IsBrokerPart}
use Rattle.rt_live_names.specs.Fronts.{AreOfCaller, Fronts, broker_caller, own_files, own_messages, own_writes}
use Rattle.rt_live_names.specs.Names.{Names}
use Rattle.rt_live_names.specs.Replays.{Replays}
use Rattle.rt_model.specs.Checked.{IsQuery}
use Rattle.rt_model.specs.Setup.{IsSetup}
use Rattle.rt_model.specs.Starting.{Starting}
use Rattle.rt_model.specs.declared.answer.Answer.{Answer}
use Rattle.rt_store.specs.Contents.{starting_of}

pub record ActingNow : Type 0 where
  pub fronts : Fronts
  pub fed : List (Known PieceGiven)
  pub asks : Asks
  pub current : Option Opened
  pub askings : ℕ
  pub mids : List Answer
  pub answers : List Answer
  pub did : List BrokerDid

-- it asks the queries of its cluster
pub record IsOfCluster (s : Starting) (n : Names) (asks : Asks) : Type 0 where
  pub starting : starting_of n.setup ≡ s
  pub setup : asks.setup ≡ n.setup
  pub is_setup : IsSetup n.setup
  pub queries : asks.queries ≡ n.queries
  pub valid : All (IsQuery n.setup.schema) n.queries
  pub whole : asks.whole ≡ whole_ranges n

-- its caller is the broker's, and nothing is its own
pub record IsQuiet (n : Names) (f : Fronts) : Type 0 where
  pub caller : AreOfCaller (broker_caller n.setup) f
  pub writes : own_writes f ≡ []
  pub puts : own_files f ≡ []
  pub appends : own_messages f ≡ []

-- what it is by what it did is what it is
pub record IsShownBy (now : Replayed) (a : ActingNow) : Type 0 where
  pub current : option_map (λ o. o.opened) now.current ≡ a.current
  pub askings : now.askings ≡ a.askings
  pub told : now.told ≡ length a.fronts.store.seen
  pub mids : map (λ x. x.answer) now.mids ≡ a.mids
  pub answers : map (λ x. x.answer) now.answers ≡ a.answers

pub record IsActing (s : Starting) (n : Names) (a : ActingNow) : Type 0 where
  pub cluster : IsOfCluster s n a.asks
  pub quiet : IsQuiet n a.fronts
  pub feeds : AreFeeds n a.fed
  -- none is printed before each query has its first answer
  pub first : 0 < length a.answers → HasFirst a.asks a.mids
  pub once : AreAskedOnce a.asks a.current a.askings a.mids
  pub now : Replayed
  pub shown : IsShownBy now a
  pub replays : Replays (BrokerStep n (whole_ranges n) (sight n a.fronts a.fed)) at_first a.did now
  pub right : IsReplayed n a.fronts a.fed (whole_ranges n) now

-- a broker that has ended: what it has of its cluster and its answers, as they came about by what it did
pub record IsEndedBroker (n : Names) (f : Fronts) (fed : List (Known PieceGiven)) (mids answers : List Answer) : Type 0 where
  pub part : BrokerPart
  pub is_fronts : part.fronts ≡ f
  pub is_fed : part.fed ≡ fed
  pub is_mids : map (λ x. x.answer) part.mids ≡ mids
  pub is_answers : map (λ x. x.answer) part.answers ≡ answers
  pub is : IsBrokerPart n part
  -- each first answer is to its query, the first time that it was asked; and each that is printed is to its query, and
  -- leaves nothing out
  pub mids_order : AreInOrder part.mids
  pub firsts : AreFirst part.mids
  pub order : AreInOrder part.answers
  pub whole : All (λ x. IsWhole (whole_ranges n) x.answer) part.answers
  pub feeds : AreFeeds n fed
  pub did : List BrokerDid
  pub now : Replayed
  pub replays : Replays (BrokerStep n (whole_ranges n) (sight n f fed)) at_first did now
  pub replayed : (now.mids ≡ part.mids) × (now.answers ≡ part.answers)
  pub told : now.told ≡ length f.store.seen
