-- A cluster that has come to rest, and what it answers then.
use Rattle.std.specs.Prelude.{Ok}
use Rattle.rt_macros.specs.Doing.{Reached}
use Rattle.rt_macros.specs.Querying.{Queries}
use Rattle.rt_model.specs.Checked.{IsQuery}
use Rattle.rt_model.specs.declared.answer.Answer.{Answer}
use Rattle.rt_model.specs.declared.query.Query.{Query}
use Rattle.rt_state.specs.declared.state.State.{State}
use Rattle.rt_heal.specs.Answered.{IsAnsweredWhole}
use Rattle.rt_heal.specs.AtRest.{IsAtRest}
use Rattle.rt_recovery.specs.GoingOn.{AllGoOn}

-- each query is answered whole: it misses nothing, and names all offsets of each partition from its mark up to the stream's end
abbrev pub AnswersWhole : State → Type 0
AnswersWhole w =
    (query : Query) (v : Reached) (answer : Answer) → IsQuery w.setup.schema query → Queries query w v (Ok answer) → IsAnsweredWhole w query answer

-- all servers rest; and where all partitions went on before, they still do, and each query is answered whole
pub record ComesToRest (w u : State) : Type 0 where
  pub rests : IsAtRest u
  pub goes_on : AllGoOn w → AllGoOn u
  pub answers : AllGoOn w → AnswersWhole u
