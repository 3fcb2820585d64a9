-- What a broker asks, and what becomes of an answer.
use Rattle.std.specs.Prelude.{◌≡◌, ◌<◌, ◌≤◌, ℕ, ◌+◌, true, List, [], ◌∷◌, ◌++◌, length, Option, Some, None}
use Rattle.rt_broker.specs.Asking.{Asking}
use Rattle.rt_live_names.specs.Whole.{IsWhole}
use Rattle.rt_live_broker.specs.declared.asks.Asks.{Asks}
use Rattle.rt_live_broker.specs.declared.kept.AnswerKept.{AnswerKept}
use Rattle.rt_live_broker.specs.declared.kept.AnswerKept.TheVariants.{First, Last, Again}
use Rattle.rt_model.specs.declared.answer.Answer.{Answer}

-- a query that is being asked: its place in the input, which asking this is, and what came of it so far
pub record Opened : Type 0 where
  pub query : ℕ
  pub asking : ℕ
  pub asked : Asking

abbrev pub opened : ℕ → ℕ → Asking → Opened
opened query asking asked = record { query = query; asking = asking; asked = asked }

-- what answers there are: the first ones, and those that are printed
pub record Answers : Type 0 where
  pub mids : List Answer
  pub answers : List Answer

abbrev pub answers_of : List Answer → List Answer → Answers
answers_of mids answers = record { mids = mids; answers = answers }

-- with a journal each query has its first answer
abbrev pub HasFirst : Asks → List Answer → Type 0
HasFirst asks mids = asks.journal ≡ true → length asks.queries ≤ length mids

-- while one hasn't, the next of them alone is asked
abbrev pub IsNext : Asks → List Answer → ℕ → Type 0
IsNext asks mids query = asks.journal ≡ true → length mids < length asks.queries → query ≡ length mids

-- each was asked once, and answered but for the one that is being asked
abbrev pub IsAskedOnce : Option Opened → ℕ → ℕ → Type 0
IsAskedOnce None askings firsts = askings ≡ firsts
IsAskedOnce (Some o) askings firsts = (o.query ≡ firsts) × (o.asking ≡ firsts) × (askings ≡ firsts + 1)

abbrev pub AreAskedOnce : Asks → Option Opened → ℕ → List Answer → Type 0
AreAskedOnce asks current askings mids =
    asks.journal ≡ true → length mids < length asks.queries → IsAskedOnce current askings (length mids)

-- an answer to the query at this place is the next first one, while one is left; then it leaves nothing out and is the next
-- that is printed, or is let go
abbrev pub Keeps : Asks → ℕ → Answer → AnswerKept → Answers → Answers → Type 0
Keeps asks query answer First old new =
    (asks.journal ≡ true)
    × (length old.mids < length asks.queries)
    × (new ≡ answers_of (old.mids ++ answer ∷ []) old.answers)
Keeps asks query answer Last old new =
    (query ≡ length old.answers)
    × HasFirst asks old.mids
    × IsWhole asks.whole answer
    × (new ≡ answers_of old.mids (old.answers ++ answer ∷ []))
Keeps asks query answer Again old new = HasFirst asks old.mids × (new ≡ old)
