-- What the reading of tokens keeps of the grammar.
use Rattle.std.specs.Prelude.{◌≡◌, ℕ, List, Ok, Err, ◌↔◌}
use Rattle.rt_schema.specs.declared.schema.Schema.{Schema}
use Rattle.rt_tokens.specs.declared.token.Token.{Token}
use Rattle.rt_grammar.specs.Faults.{IsFault, NestsDeeper}
use Rattle.rt_grammar.specs.Grammar.{IsQuery}
use Rattle.rt_grammar.specs.Run.{nothing, run}
use Rattle.rt_grammar.specs.declared.parts.Parts.{Parts}
use Rattle.rt_grammar.specs.declared.sql_refused.SqlRefused.TheVariants.{Syntax, Limit}

-- tokens are read as a query exactly where the grammar derives it, nesting at most 64 deep
abbrev pub ReadIsDerived : Type 0
ReadIsDerived = (schema : Schema) (size : ℕ) (tokens : List Token) (parts : Parts) → (run schema size nothing tokens ≡ Ok parts) ↔ IsQuery schema 64 tokens parts

-- where tokens aren't read, the byte of the refusal is that of the first token that no query has in its place
abbrev pub FaultsAreFirst : Type 0
FaultsAreFirst = (schema : Schema) (size byte : ℕ) (tokens : List Token) → run schema size nothing tokens ≡ Err (Syntax byte) → IsFault schema size tokens byte

-- tokens are refused for their depth exactly where they nest too deep before their first fault
abbrev pub DeepIsRefused : Type 0
DeepIsRefused = (schema : Schema) (size : ℕ) (tokens : List Token) → NestsDeeper schema tokens ↔ (run schema size nothing tokens ≡ Err Limit)
