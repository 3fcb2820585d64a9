-- The first token that no query has in its place, and tokens that nest too deep.
use Rattle.std.specs.Prelude.{◌≡◌, ℕ, List, [], ◌∷◌, ◌++◌}
use Rattle.rt_schema.specs.declared.schema.Schema.{Schema}
use Rattle.rt_tokens.specs.declared.token.Token.{Token}
use Rattle.rt_grammar.specs.Grammar.{IsQuery}
use Rattle.rt_grammar.specs.declared.parts.Parts.{Parts}

-- some query that nests at most so deep begins with these tokens
abbrev pub BeginsWithin : ℕ → Schema → List Token → Type 0
BeginsWithin depth schema tokens = (rest : List Token) × (parts : Parts) × IsQuery schema depth (tokens ++ rest) parts

abbrev pub Begins : Schema → List Token → Type 0
Begins schema tokens = BeginsWithin 64 schema tokens

-- a query begins with the first of these tokens, but none that nests at most 64 deep
abbrev pub NestsDeeper : Schema → List Token → Type 0
NestsDeeper schema tokens =
    (front : List Token) × (behind : List Token) × (depth : ℕ) × (tokens ≡ front ++ behind) × BeginsWithin depth schema front × (Begins schema front → ⊥)

-- the byte of the first token with which no query goes on, however deep it nests, or the size of a text that begins a query and is none
pub data IsFault : Schema → ℕ → List Token → ℕ → Type 0 where
  at_the_end : {schema : Schema} {size : ℕ} (tokens : List Token) →
      Begins schema tokens → ((depth : ℕ) (parts : Parts) → IsQuery schema depth tokens parts → ⊥) → IsFault schema size tokens size
  at_a_token : {schema : Schema} {size : ℕ} (before : List Token) (token : Token) (behind : List Token) →
      Begins schema before → ((depth : ℕ) → BeginsWithin depth schema (before ++ token ∷ []) → ⊥) → IsFault schema size (before ++ token ∷ behind) token.byte
