-- What a broker did, as steps from what it was to what it became. What a step is told of the store is by what the front
-- showed before it, and showed at its end.
use Rattle.std.specs.Prelude.{◌≡◌, ℕ, ◌+◌, List, ◌∷◌, [], ◌++◌, Some, None, Result, Err, length, slice_get}
use Rattle.rt_base.specs.declared.numbers.Instance.{Instance}
use Rattle.rt_base.specs.declared.numbers.Partition.{Partition}
use Rattle.rt_base.specs.declared.numbers.Sequence.{Sequence}
use Rattle.rt_base.specs.declared.range.Range.{Range}
use Rattle.rt_broker.specs.Asking.{Asking, asking as first_asking}
use Rattle.rt_broker.specs.Noting.{Notes}
use Rattle.rt_broker.specs.Routing.{Routes}
use Rattle.rt_broker.specs.declared.piece_got.PieceGot.{PieceGot}
use Rattle.rt_broker.specs.declared.refused.BrokerRefused.{BrokerRefused}
use Rattle.rt_broker.specs.declared.refused.BrokerRefused.TheVariants.{StoreFault}
use Rattle.rt_lists.specs.Members.{Has, IsFront}
use Rattle.rt_live_broker.specs.Asks.{opened}
use Rattle.rt_live_broker.specs.Replayed.{Began, Replayed, Sight}
use Rattle.rt_live_names.specs.Whole.{IsWhole}
use Rattle.rt_live_broker.specs.declared.did.BrokerDid.{BrokerDid}
use Rattle.rt_live_broker.specs.declared.did.BrokerDid.TheVariants as did
use Rattle.rt_live_broker.specs.declared.kept.AnswerKept.{AnswerKept}
use Rattle.rt_live_broker.specs.declared.kept.AnswerKept.TheVariants.{First, Last, Again}
use Rattle.rt_live_names.specs.BrokerPart.{Answered, IsAnswerOf}
use Rattle.rt_live_names.specs.Names.{Names}
use Rattle.rt_live_names.specs.Showed.{Showed, Shown}
use Rattle.rt_model.specs.Laws.{Begins}
use Rattle.rt_model.specs.Starting.{Starting}
use Rattle.rt_model.specs.declared.answer.Answer.{Answer}
use Rattle.rt_model.specs.declared.node.Key.TheVariants as key
use Rattle.rt_model.specs.declared.node.Seen.{Seen}
use Rattle.rt_model.specs.declared.piece.Piece.{Piece}
use Rattle.rt_model.specs.declared.query.Query.{Query}
use Rattle.rt_store.specs.Calls.{Reads}
use Rattle.rt_store.specs.Contents.{starting_of}
use Rattle.rt_store.specs.Meaning.{Meaning}
use Rattle.rt_store.specs.declared.refused.StoreRefused.{StoreRefused}

-- a read of a segment's node
pub record LooksAt (s : Starting) (shown : Shown) (a : Replayed) (p : Partition) (q : Sequence) (told : ℕ) (result : Result Seen StoreRefused) (b : Replayed) : Type 0 where
  pub before : Meaning
  pub after : Meaning
  pub showed : Showed s shown a.told 0 before
  pub shows : Showed s shown told 0 after
  pub step : Reads before after (key.Meta p q) result
  pub now : b ≡ record a { told = told }

-- a query is asked, where none is being asked: the next asking begins with no partition routed, by all that was shown so
-- far
pub record BeginsToAsk (n : Names) (shown : Shown) (a : Replayed) (query asking told : ℕ) (b : Replayed) : Type 0 where
  pub closed : a.current ≡ None
  pub text : Query
  pub is : slice_get n.queries query ≡ Some text
  pub number : asking ≡ a.askings
  pub same : told ≡ a.told
  pub before : Meaning
  pub showed : Showed (starting_of n.setup) shown a.told 0 before
  pub now :
      b ≡ record a {
        current = Some (record { opened = opened query asking (first_asking text n.setup); began = before.seen });
        askings = a.askings + 1;
      }

-- the asking goes on, and nothing else changes
abbrev pub going_on : Replayed → Began → Asking → Replayed
going_on a o asked =
    record a { current = Some (record { opened = opened o.opened.query o.opened.asking asked; began = o.began }) }

-- a partition is routed by a list that has all that the store had shown as the asking began
pub record RoutesOne (s : Starting) (shown : Shown) (a : Replayed) (p : Partition) (told : ℕ) (result : Result ℕ BrokerRefused) (b : Replayed) : Type 0 where
  pub current : Began
  pub is : a.current ≡ Some current
  pub before : Meaning
  pub after : Meaning
  pub begins : Begins s before.seen
  pub since : IsFront current.began before.seen
  pub showed : Showed s shown a.told 0 before
  pub shows : Showed s shown told 0 after
  pub asked : Asking
  pub step : Routes before after current.opened.asked p asked result
  -- the store meets no fault
  pub met : result ≡ Err StoreFault → ⊥
  pub now : b ≡ record (going_on a current asked) { told = told }

-- what a server gave for a piece in this asking is noted; where memory is refused it isn't
pub record NotesOne (sight : Sight) (a : Replayed) (piece : Piece) (from : Instance) (got : PieceGot) (b : Replayed) : Type 0 where
  pub current : Began
  pub is : a.current ≡ Some current
  pub gave :
      Has (sight.given from.0)
      (record { query = current.opened.query; asking = current.opened.asking; piece = piece; got = got })
  pub asked : Asking
  pub result : Result (Unit {0}) BrokerRefused
  pub step : Notes current.opened.asked piece from got asked result
  pub now : b ≡ going_on a current asked

abbrev pub answered : Began → Answer → Answered
answered o answer =
    record {
      query = o.opened.query;
      asking = o.opened.asking;
      began = o.began;
      asked = o.opened.asked;
      answer = answer;
    }

-- an answer ends its asking; a first one is that to the first asking of its query
abbrev pub Closes : List (Partition × Range) → Replayed → Answered → AnswerKept → Replayed → Type 0
Closes whole a x First b =
    (x.query ≡ length a.mids)
    × (x.asking ≡ x.query)
    × (b ≡ record a { current = None; mids = a.mids ++ x ∷ [] })
Closes whole a x Last b =
    (x.query ≡ length a.answers)
    × IsWhole whole x.answer
    × (b ≡ record a { current = None; answers = a.answers ++ x ∷ [] })
Closes whole a x Again b = b ≡ record a { current = None }

pub record AnswersOne (whole : List (Partition × Range)) (a : Replayed) (kept : AnswerKept) (b : Replayed) : Type 0 where
  pub current : Began
  pub is : a.current ≡ Some current
  pub answer : Answer
  pub made : IsAnswerOf current.opened.asked answer
  pub closes : Closes whole a (answered current answer) kept b

abbrev pub BrokerStep : Names → List (Partition × Range) → Sight → Replayed → BrokerDid → Replayed → Type 0
BrokerStep n whole v a (did.Looked p q told result) b = LooksAt (starting_of n.setup) v.store a p q told result b
BrokerStep n whole v a (did.Asked query asking told) b = BeginsToAsk n v.store a query asking told b
BrokerStep n whole v a (did.Routed p told result) b = RoutesOne (starting_of n.setup) v.store a p told result b
BrokerStep n whole v a (did.Noted piece from got) b = NotesOne v a piece from got b
BrokerStep n whole v a (did.Answered kept) b = AnswersOne whole a kept b
