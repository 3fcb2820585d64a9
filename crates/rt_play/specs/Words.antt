-- What a program's words ask for.
use Rattle.std.specs.Prelude.{ℕ, List, [], ◌∷◌, Option, None, Some, codes, bytes_eq, if◌then◌else◌}
use Rattle.rt_lines.specs.Words.{then_some, word_number}
use Rattle.rt_play.specs.declared.words.Asked.{Asked}
use Rattle.rt_play.specs.declared.words.Asked.TheVariants as asked

abbrev pub generated_of : List ℕ → List ℕ → List ℕ → Option Asked
generated_of seed partitions rows =
    then_some (word_number seed) (λ s.
    then_some (word_number partitions) (λ p.
    then_some (word_number rows) (λ r.
    Some (asked.Generated (record { seed = s; partitions = p; rows = r })))))

-- none asks for a script to be read, and `gen SEED PARTITIONS ROWS` for a generated run; all else is no use of the program
abbrev pub asked_of : List (List ℕ) → Option Asked
asked_of [] = Some asked.Script
asked_of (first ∷ []) = None
asked_of (first ∷ second ∷ []) = None
asked_of (first ∷ second ∷ third ∷ []) = None
asked_of (first ∷ second ∷ third ∷ fourth ∷ []) = if bytes_eq first (codes "gen") then generated_of second third fourth else None
asked_of (first ∷ second ∷ third ∷ fourth ∷ fifth ∷ more) = None
