use Rattle.std.specs.Prelude.{◌≡◌, ℕ, ◌+◌, Bool, true, false, List, [], ◌∷◌, length, map, ◌==◌, if◌then◌else◌}
use Rattle.std.specs.Str.Lines.{strip_carriage_return}

-- lines with one more byte at the front of the first
abbrev pub with_front : ℕ → List (List ℕ) → List (List ℕ)
with_front b [] = (b ∷ []) ∷ []
with_front b (line ∷ lines) = (b ∷ line) ∷ lines

-- how many bytes stand before the first newline
abbrev pub length_of_line : List ℕ → ℕ
length_of_line [] = 0
length_of_line (b ∷ bs) = if b == 10 then 0 else length_of_line bs + 1

-- the parts of a text that newlines end; the last may lack its newline
abbrev pub parts_of : List ℕ → List (List ℕ)
parts_of [] = []
parts_of (b ∷ bs) = if b == 10 then [] ∷ parts_of bs else with_front b (parts_of bs)

-- the lines of a text: each without its newline and one carriage return before that
abbrev pub lines_of : List ℕ → List (List ℕ)
lines_of text = map strip_carriage_return (parts_of text)

-- a line that is empty or a comment
abbrev pub is_skipped : List ℕ → Bool
is_skipped [] = true
is_skipped (b ∷ bs) = b == 35

-- the lines that aren't skipped, each with its number; those that are skipped count too
abbrev pub numbered : ℕ → List (List ℕ) → List (ℕ × List ℕ)
numbered number [] = []
numbered number (line ∷ lines) = if is_skipped line then numbered (number + 1) lines else (number, line) ∷ numbered (number + 1) lines

-- the lines of a script that are left to read, and the number after its last line
pub record ScriptLines : Type 0 where
  pub lines : List (ℕ × List ℕ)
  pub after : ℕ

-- what is left of a script whose rest begins with the line of this number
abbrev pub lines_from : ℕ → List ℕ → ScriptLines
lines_from number rest = record { lines = numbered number (lines_of rest); after = number + length (lines_of rest) }

-- the lines of a script
abbrev pub script_lines : List ℕ → ScriptLines
script_lines input = lines_from 1 input

-- the first line, where there is one, isn't skipped
abbrev pub BeginsUnskipped : List (List ℕ) → Type 0
BeginsUnskipped [] = Unit {0}
BeginsUnskipped (line ∷ lines) = is_skipped line ≡ false
