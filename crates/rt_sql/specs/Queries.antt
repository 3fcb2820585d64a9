-- Which query a text is of, and where a text is of none.
use Rattle.std.specs.Prelude.{◌≡◌, ℕ, ◌<◌, ◌≤◌, true, false, List, length, Result, Ok, Err}
use Rattle.rt_schema.specs.declared.schema.Schema.{Schema}
use Rattle.rt_model.specs.declared.query.Query.{Query}
use Rattle.rt_tokens.specs.Tokens.{tokens_of}
use Rattle.rt_tokens.specs.declared.token.Token.{Token}
use Rattle.rt_grammar.specs.Faults.{IsFault, NestsDeeper}
use Rattle.rt_grammar.specs.Grammar.{IsQuery}
use Rattle.rt_grammar.specs.Whole.{query_with}
use Rattle.rt_grammar.specs.declared.parts.Parts.{Parts}
use Rattle.rt_grammar.specs.declared.sql_refused.SqlRefused.{SqlRefused}
use Rattle.rt_grammar.specs.declared.sql_refused.SqlRefused.TheVariants.{Syntax, NoTable, NoColumn, WrongType, Limit, Memory}
use Rattle.rt_sql.specs.Breaches.{IsBreach, IsFirstBreach}
use Rattle.rt_sql.specs.Checks.{are_known, are_within}
use Rattle.rt_sql.specs.Kinds.{is_typed_query}
use Rattle.rt_sql.specs.Parsing.{is_table}
use Rattle.rt_sql.specs.declared.before.Before.TheVariants.{Other}

-- a query of the grammar that is one of a table
pub record IsOfTable (schema : Schema) (table : List ℕ) (tokens : List Token) (parts : Parts) : Type 0 where
  pub rules : (byte : ℕ) → IsBreach parts byte → ⊥
  pub named : is_table parts.table table ≡ true
  pub known : are_known schema Other tokens ≡ true
  pub typed : is_typed_query schema parts ≡ true
  pub within : are_within Other tokens ≡ true

-- the text is of this query
abbrev pub IsTextOf : Schema → List ℕ → List ℕ → Query → Type 0
IsTextOf schema table text query =
    (parts : Parts) × (length text ≤ 65536) × IsQuery schema 64 (tokens_of text) parts × IsOfTable schema table (tokens_of text) parts × (query ≡ query_with parts)

-- the text is of no query by its syntax: by the grammar, or by a further rule, of whose breaches the first counts
pub data IsMisspelt : Schema → List ℕ → ℕ → Type 0 where
  by_grammar : {schema : Schema} {text : List ℕ} {byte : ℕ} → IsFault schema (length text) (tokens_of text) byte → IsMisspelt schema text byte
  by_rule : {schema : Schema} {text : List ℕ} {byte : ℕ} (parts : Parts) → IsQuery schema 64 (tokens_of text) parts → IsFirstBreach parts byte → IsMisspelt schema text byte

-- the answer is this query, unless memory ran out
abbrev pub IsReadAs : Query → Result Query SqlRefused → Type 0
IsReadAs query (Ok found) = found ≡ query
IsReadAs query (Err Memory) = Unit {0}
IsReadAs query (Err (Syntax byte)) = ⊥
IsReadAs query (Err NoTable) = ⊥
IsReadAs query (Err NoColumn) = ⊥
IsReadAs query (Err WrongType) = ⊥
IsReadAs query (Err Limit) = ⊥

abbrev pub IfMisspelt : Schema → List ℕ → Result Query SqlRefused → Type 0
IfMisspelt schema text (Err (Syntax byte)) = IsMisspelt schema text byte
IfMisspelt schema text other = Unit {0}

-- the text is longer than 65,536 bytes, nests too deep, or is a query with a number that is too great
pub data PassesLimit : Schema → List ℕ → Type 0 where
  by_length : {schema : Schema} {text : List ℕ} → 65536 < length text → PassesLimit schema text
  by_depth : {schema : Schema} {text : List ℕ} → NestsDeeper schema (tokens_of text) → PassesLimit schema text
  by_number : {schema : Schema} {text : List ℕ} (parts : Parts) → IsQuery schema 64 (tokens_of text) parts → are_within Other (tokens_of text) ≡ false → PassesLimit schema text

abbrev pub IfLimited : Schema → List ℕ → Result Query SqlRefused → Type 0
IfLimited schema text (Err Limit) = PassesLimit schema text
IfLimited schema text other = Unit {0}

-- the answer is that a limit is passed, unless memory ran out
abbrev pub IsLimited : Result Query SqlRefused → Type 0
IsLimited (Ok query) = ⊥
IsLimited (Err Limit) = Unit {0}
IsLimited (Err Memory) = Unit {0}
IsLimited (Err (Syntax byte)) = ⊥
IsLimited (Err NoTable) = ⊥
IsLimited (Err NoColumn) = ⊥
IsLimited (Err WrongType) = ⊥
