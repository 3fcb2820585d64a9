-- The bytes at which tokens begin ascend.
use Rattle.std.proofs.Common.{ℕ, zero, suc, ◌-◌, ◌≤◌, Bool, true, false, List, [], ◌∷◌, Option, Some, None, if◌then◌else◌, arith}
use Rattle.rt_tokens.specs.Tokens.{is_blank, first_token, begin, tokens_at, tokens_of}
use Rattle.rt_tokens.specs.declared.lexer.Lexed.{Lexed}
use Rattle.rt_tokens.specs.declared.token.Token.{Token}

-- tokens that begin from a byte on, each behind the one before
abbrev pub Rises : ℕ → List Token → Type 0
Rises n [] = Unit {0}
Rises n (t ∷ ts) = (n ≤ t.byte) × Rises t.byte ts

pub lower : (m n : ℕ) (ts : List Token) → m ≤ n → Rises n ts → Rises m ts
lower m n [] le h = tt
lower m n (t ∷ ts) le (first, rest) = (omega (arith, le, first), rest)

pub behind : (n byte : ℕ) (ts : List Token) → (n ≤ byte) × Rises byte ts → Rises n ts
behind n byte ts (first, rest) = lower n byte ts first rest

begun : (n byte : ℕ) (o : Option Lexed) (more : ℕ → List Token) → n ≤ byte → ((skip : ℕ) → Rises byte (more skip)) → Rises n (begin byte o more)
begun n byte None more le h = (le, tt)
begun n byte (Some lexed) more le h = (le, h (lexed.length - 1))

either_way : (n : ℕ) (b : Bool) (xs ys : List Token) → Rises n xs → Rises n ys → Rises n (if b then xs else ys)
either_way n true xs ys h k = h
either_way n false xs ys h k = k

tokens_rise : (n skip byte : ℕ) (bytes : List ℕ) → n ≤ byte → Rises n (tokens_at skip byte bytes)
tokens_rise n skip byte [] le = tt
tokens_rise n (suc skip) byte (b ∷ bytes) le = tokens_rise n skip (suc byte) bytes (omega (arith, le))
tokens_rise n zero byte (b ∷ bytes) le =
    either_way n (is_blank b) (tokens_at 0 (suc byte) bytes) (begin byte (first_token (b ∷ bytes)) (λ skip. tokens_at skip (suc byte) bytes))
    (tokens_rise n 0 (suc byte) bytes (omega (arith, le)))
    (begun n byte (first_token (b ∷ bytes)) (λ skip. tokens_at skip (suc byte) bytes) le (λ skip. tokens_rise byte skip (suc byte) bytes (omega arith)))

-- those of a text do
pub text_rises : (x : List ℕ) → Rises 0 (tokens_of x)
text_rises x = tokens_rise 0 0 0 x (omega arith)
