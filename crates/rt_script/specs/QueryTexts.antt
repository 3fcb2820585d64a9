-- The texts of queries.
use Rattle.std.specs.Prelude.{ℕ, List, Option, None, Some, Result, Ok, Err, if◌then◌else◌}
use Rattle.std.specs.Str.{is_utf8}
use Rattle.rt_model.specs.Checked.{IsQuery}
use Rattle.rt_model.specs.declared.query.Query.{Query}
use Rattle.rt_schema.specs.declared.schema.Schema.{Schema}
use Rattle.rt_sql.specs.Parsing.{query_of as query_in}
use Rattle.rt_grammar.specs.declared.sql_refused.SqlRefused.{SqlRefused}
use Rattle.rt_grammar.specs.declared.sql_refused.SqlRefused.TheVariants as refused
use Rattle.rt_script.specs.declared.query_text.QueryText.{QueryText}
use Rattle.rt_script.specs.declared.query_text.QueryText.TheVariants.{Query as Asks, Refused}

-- the number by which a refused query is reported
abbrev pub number_of : SqlRefused → ℕ
number_of (refused.Syntax byte) = 1
number_of refused.NoTable = 2
number_of refused.NoColumn = 3
number_of refused.WrongType = 4
number_of refused.Limit = 5
number_of refused.Memory = 0

abbrev pub text_read : Result Query SqlRefused → QueryText
text_read (Ok query) = Asks query
text_read (Err why) = Refused (number_of why)

-- what a text is among the queries of a table, or none where it isn't UTF-8
abbrev pub text_of : Schema → List ℕ → List ℕ → Option QueryText
text_of schema table text = if is_utf8 text then Some (text_read (query_in schema table text)) else None

abbrev pub FitsText : Schema → QueryText → Type 0
FitsText schema (Asks query) = IsQuery schema query
FitsText schema (Refused number) = Unit {0}
