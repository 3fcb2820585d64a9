-- What is asked of each token of a query, by the token before it.
use Rattle.std.specs.Prelude.{◌&&◌, Bool, true, false, List, [], ◌∷◌, length, nat_lt, is_some}
use Rattle.rt_schema.specs.declared.schema.Schema.{Schema}
use Rattle.rt_tokens.specs.Literals.{whole, rows}
use Rattle.rt_tokens.specs.declared.lexeme.Lexeme.{Lexeme}
use Rattle.rt_tokens.specs.declared.lexeme.Lexeme.TheVariants.{Word, Name, Number}
use Rattle.rt_tokens.specs.declared.lexeme.Word.TheVariants as word
use Rattle.rt_tokens.specs.declared.token.Token.{Token}
use Rattle.rt_grammar.specs.Columns.{place_of}
use Rattle.rt_sql.specs.declared.before.Before.{Before}
use Rattle.rt_sql.specs.declared.before.Before.TheVariants.{From, Limit, Minus, Other}

abbrev pub before_next : Lexeme → Before
before_next (Word word.From) = From
before_next (Word word.Limit) = Limit
before_next (Word word.Minus) = Minus
before_next other = Other

-- each name is a column's, but for the one behind FROM
abbrev pub is_known : Schema → Before → Lexeme → Bool
is_known schema From (Name name) = true
is_known schema before (Name name) = nat_lt (place_of name schema.columns) (length schema.columns)
is_known schema before other = true

abbrev pub are_known : Schema → Before → List Token → Bool
are_known schema before [] = true
are_known schema before (token ∷ tokens) = is_known schema before token.lexeme && are_known schema (before_next token.lexeme) tokens

-- the number behind LIMIT is at most 1,000,000, and each other one has 64 signed bits with its minus
abbrev pub is_within : Before → Lexeme → Bool
is_within Limit (Number n) = is_some (rows n)
is_within Minus (Number n) = is_some (whole true n)
is_within before (Number n) = is_some (whole false n)
is_within before other = true

abbrev pub are_within : Before → List Token → Bool
are_within before [] = true
are_within before (token ∷ tokens) = is_within before token.lexeme && are_within (before_next token.lexeme) tokens
