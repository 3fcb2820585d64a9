-- What the report of a script tells of its answers, by the script and the report alone: each answer counts what was produced.
use Rattle.std.specs.Prelude.{◌≡◌, ◌<◌, ◌≤◌, ◌⊎◌, ℕ, zero, suc, List, [], ◌∷◌, ◌++◌, All, AllPairs, length, map, replicate, Option, Some, slice_get}
use Rattle.rt_base.specs.declared.numbers.Partition.{Partition}
use Rattle.rt_base.specs.declared.range.Range.{Range}
use Rattle.rt_events.specs.declared.event.Event.TheVariants.{Answer, Ask, Produce}
use Rattle.rt_lines.specs.Header.{NumberedLine}
use Rattle.rt_macros.specs.Filling.{numbered_text}
use Rattle.rt_model.specs.Aggregate.{aggregate}
use Rattle.rt_model.specs.RightAnswer.{rows_of}
use Rattle.rt_model.specs.declared.answer.Answer.{Answer as AnswerGiven}
use Rattle.rt_model.specs.declared.query.Query.{Query}
use Rattle.rt_model.specs.declared.setup.Setup.{Setup}
use Rattle.rt_play.specs.AnswerTexts.{AreWords}
use Rattle.rt_report.specs.BrokerTexts.{answer_line}
use Rattle.rt_schema.specs.declared.schema.Schema.{Schema}
use Rattle.rt_script.specs.Line.{line_in}
use Rattle.rt_script.specs.declared.line.Line.{Line}
use Rattle.rt_script.specs.declared.line.Line.TheVariants as line
use Rattle.rt_script.specs.declared.line.Macro.TheVariants as macro
use Rattle.rt_stream.specs.Log.{Log, end_of, messages_of, with_message}

-- ---- what a `fill` line produces

-- so many messages more in a partition, each of which says its own offset
abbrev pub filled : Log → Partition → ℕ → Log
filled log partition zero = log
filled log partition (suc count) = filled (with_message log partition (numbered_text (end_of (messages_of log partition)))) partition count

-- ---- an answer

-- a range is of an earlier partition than another one, or of the same, and ends where the other begins, or before
abbrev pub LiesBefore : Partition × Range → Partition × Range → Type 0
LiesBefore r s = (r.0.0 < s.0.0) ⊎ ((r.0.0 ≡ s.0.0) × (r.1.end.0 ≤ s.1.start.0))

-- a text is the line of an answer to a query, whose numbers fit words of 64 bits: it names ranges in order, none of them twice, each of which has
-- an offset and ends within what was produced; and its rows are those of the query over exactly the messages that were produced at these offsets
pub record CountsProduced (schema : Schema) (log : Log) (query : Query) (text : List ℕ) : Type 0 where
  pub answer : AnswerGiven
  pub told : text ≡ answer_line answer
  pub words : AreWords answer
  pub order : AllPairs LiesBefore answer.ranges
  pub within : All (λ r. (r.1.start.0 < r.1.end.0) × (r.1.end.0 ≤ length (messages_of log r.0))) answer.ranges
  pub rows : answer.rows ≡ aggregate query (rows_of schema log answer.ranges)

-- ---- a report

-- a line, with its text, over what the lines above it produced, and the queries that they asked, by number; and then the lines behind it. A
-- `produce` line gives one message, a `fill` line many; an `ask` line and a `query` line ask. The text of a `query` line is an answer to its
-- query, and that of an `answer` line to the query of that number
abbrev pub AnswersSo : Schema → Option Line → List ℕ → Log → List Query → (Log → List Query → Type 0) → Type 0
AnswersSo schema (Some (line.Event (Produce partition message))) text log queries later = later (with_message log partition message) queries
AnswersSo schema (Some (line.Macro (macro.Fill partition count))) text log queries later = later (filled log partition count) queries
AnswersSo schema (Some (line.Event (Ask query))) text log queries later = later log (queries ++ query ∷ [])
AnswersSo schema (Some (line.Macro (macro.Query query))) text log queries later =
    CountsProduced schema log query text × later log (queries ++ query ∷ [])
AnswersSo schema (Some (line.Event (Answer number))) text log queries later =
    (query : Query) × (slice_get queries number ≡ Some query) × CountsProduced schema log query text × later log queries
AnswersSo schema other text log queries later = later log queries

-- so it is of each line that has a text
abbrev pub AllAnswerSo : Schema → List (Option Line) → List (List ℕ) → Log → List Query → Type 0
AllAnswerSo schema lines [] log queries = Unit {0}
AllAnswerSo schema [] (text ∷ texts) log queries = ⊥
AllAnswerSo schema (said ∷ lines) (text ∷ texts) log queries =
    AnswersSo schema said text log queries (λ more asked. AllAnswerSo schema lines texts more asked)

-- behind the header nothing was produced yet, and nothing was asked
abbrev pub AnswersCount : Setup → List NumberedLine → List (List ℕ) → Type 0
AnswersCount setup lines texts = AllAnswerSo setup.schema (map (λ line. line_in setup line.1) lines) texts (replicate setup.partitions []) []
