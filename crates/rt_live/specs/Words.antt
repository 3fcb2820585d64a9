-- What a program's words ask for.
use Rattle.std.specs.Prelude.{ℕ, Bool, true, false, List, [], ◌∷◌, Option, None, Some, bytes_eq, codes, if◌then◌else◌}

-- none asks for the answers and the ends, `--journal` for a journal too; all else is no use of the program
abbrev pub journal_asked : List (List ℕ) → Option Bool
journal_asked [] = Some false
journal_asked (first ∷ []) = if bytes_eq first (codes "--journal") then Some true else None
journal_asked (first ∷ second ∷ more) = None
