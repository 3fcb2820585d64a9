-- The text of an answer has one reading.
use Rattle.std.proofs.Common.{◌≡◌, ℕ, List, Option, sym, ◌∙◌, ap}
use Rattle.rt_base.specs.declared.numbers.Partition.{Partition}
use Rattle.rt_base.specs.declared.numbers.Sequence.{Sequence}
use Rattle.rt_base.specs.declared.range.Range.{Range}
use Rattle.rt_model.specs.Aggregate.{aggregate}
use Rattle.rt_model.specs.RightAnswer.{rows_of}
use Rattle.rt_model.specs.declared.answer.Answer.{Answer}
use Rattle.rt_model.specs.declared.answer.ResultRow.{ResultRow}
use Rattle.rt_model.specs.declared.query.Query.{Query}
use Rattle.rt_play.proofs.AnswerTexts.{text_tells}
use Rattle.rt_play.specs.Reader.{CountsProduced}
use Rattle.rt_schema.specs.declared.schema.Schema.{Schema}
use Rattle.rt_stream.specs.Log.{Log}

abbrev made : List (Partition × Range) → List (Partition × Option Sequence) → List ResultRow → Answer
made ranges missing rows = record { ranges = ranges; missing = missing; rows = rows }

-- the ranges tell the rows
pub one_answer : (schema : Schema) (log : Log) (query : Query) (text : List ℕ) (one other : CountsProduced schema log query text) → one.answer ≡ other.answer
one_answer schema log query text one other =
    let a = one.answer in
    let b = other.answer in
    let told = text_tells a b one.words other.words (sym one.told ∙ other.told) in
    ap (λ rows. made a.ranges a.missing rows) (one.rows ∙ ap (λ rs. aggregate query (rows_of schema log rs)) told.0 ∙ sym other.rows)
    ∙ ap (λ rs. made rs a.missing b.rows) told.0
    ∙ ap (λ ms. made b.ranges ms b.rows) told.1
