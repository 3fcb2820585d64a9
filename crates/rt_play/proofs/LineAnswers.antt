-- What a line produces, asks and answers, each by itself.
use Rattle.std.proofs.Common.{◌≡◌, ℕ, List, [], ◌∷◌, ◌++◌, Option, Some, slice_get}
use Rattle.rt_events.specs.declared.event.Event.TheVariants as event
use Rattle.rt_model.specs.declared.query.Query.{Query}
use Rattle.rt_play.specs.Reader.{AnswersSo, CountsProduced, filled}
use Rattle.rt_schema.specs.declared.schema.Schema.{Schema}
use Rattle.rt_script.specs.declared.line.Line.{Line}
use Rattle.rt_script.specs.declared.line.Line.TheVariants as line
use Rattle.rt_script.specs.declared.line.Macro.TheVariants as macro
use Rattle.rt_stream.specs.Log.{Log, with_message}

-- what was produced, behind a line
abbrev pub produced_behind : Option Line → Log → Log
produced_behind (Some (line.Event (event.Produce partition message))) log = with_message log partition message
produced_behind (Some (line.Macro (macro.Fill partition count))) log = filled log partition count
produced_behind other log = log

-- the queries that were asked, behind a line
abbrev pub asked_behind : Option Line → List Query → List Query
asked_behind (Some (line.Event (event.Ask query))) queries = queries ++ query ∷ []
asked_behind (Some (line.Macro (macro.Query query))) queries = queries ++ query ∷ []
asked_behind other queries = queries

-- the text of the line is an answer, where it is to be one
abbrev pub AnswersHere : Schema → Option Line → List ℕ → Log → List Query → Type 0
AnswersHere schema (Some (line.Macro (macro.Query query))) text log queries = CountsProduced schema log query text
AnswersHere schema (Some (line.Event (event.Answer number))) text log queries =
    (query : Query) × (slice_get queries number ≡ Some query) × CountsProduced schema log query text
AnswersHere schema other text log queries = Unit {0}

-- so the line answers so, where the lines behind it do
pub answers_so : (schema : Schema) (said : Option Line) (text : List ℕ) (log : Log) (queries : List Query) (later : Log → List Query → Type 0)
    → AnswersHere schema said text log queries → later (produced_behind said log) (asked_behind said queries) → AnswersSo schema said text log queries later
answers_so schema (Some (line.Macro (macro.Query query))) text log queries later counts others = (counts, others)
answers_so schema (Some (line.Event (event.Answer number))) text log queries later (query, asked, counts) others = (query, asked, counts, others)
answers_so schema other text log queries later none others = others
