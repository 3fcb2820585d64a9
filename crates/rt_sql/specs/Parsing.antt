-- The query that a text is, or why it is none.
use Rattle.std.specs.Prelude.{ℕ, ◌||◌, Bool, List, ◌++◌, length, nat_le, codes, Option, Some, None, Result, Ok, Err, if◌then◌else◌}
use Rattle.std.specs.Str.{bytes_eq}
use Rattle.rt_schema.specs.declared.schema.Schema.{Schema}
use Rattle.rt_model.specs.declared.query.Query.{Query}
use Rattle.rt_tokens.specs.Tokens.{tokens_of}
use Rattle.rt_tokens.specs.declared.token.Token.{Token}
use Rattle.rt_grammar.specs.Run.{nothing, run}
use Rattle.rt_grammar.specs.Whole.{query_with}
use Rattle.rt_grammar.specs.declared.parts.Parts.{Parts}
use Rattle.rt_grammar.specs.declared.sql_refused.SqlRefused.{SqlRefused}
use Rattle.rt_grammar.specs.declared.sql_refused.SqlRefused.TheVariants.{Syntax, NoTable, NoColumn, WrongType, Limit}
use Rattle.rt_sql.specs.Checks.{are_known, are_within}
use Rattle.rt_sql.specs.Kinds.{is_typed_query}
use Rattle.rt_sql.specs.Rules.{breach}
use Rattle.rt_sql.specs.declared.before.Before.TheVariants.{Other}

-- the table, or its realtime part
abbrev pub is_table : List ℕ → List ℕ → Bool
is_table name table = bytes_eq name table || bytes_eq name (table ++ codes "_REALTIME")

-- the first refusal that applies to a query of the grammar
abbrev pub checked : Schema → List ℕ → List Token → Option ℕ → Parts → Result Query SqlRefused
checked schema table tokens (Some byte) parts = Err (Syntax byte)
checked schema table tokens None parts =
    if is_table parts.table table then
    (if are_known schema Other tokens then
    (if is_typed_query schema parts then
    (if are_within Other tokens then Ok (query_with parts) else Err Limit)
    else Err WrongType)
    else Err NoColumn)
    else Err NoTable

abbrev pub query_from : Schema → List ℕ → List Token → Result Parts SqlRefused → Result Query SqlRefused
query_from schema table tokens (Ok parts) = checked schema table tokens (breach parts) parts
query_from schema table tokens (Err refused) = Err refused

-- a text has at most 65,536 bytes
abbrev pub query_of : Schema → List ℕ → List ℕ → Result Query SqlRefused
query_of schema table text = if nat_le (length text) 65536 then query_from schema table (tokens_of text) (run schema (length text) nothing (tokens_of text)) else Err Limit
