-- Sets of rows by the ids of a column.
use Rattle.std.specs.Prelude.{ℕ, Bool, true, false, List, [], ◌∷◌, slice_set, slice_index_or, if◌then◌else◌}
use Rattle.rt_postings.specs.Postings.{rows_of}

-- whether an id passes
abbrev pub truth_at : List Bool → ℕ → Bool
truth_at truths id = slice_index_or truths id false

-- a set and these rows
abbrev pub with_rows : List Bool → List ℕ → List Bool
with_rows set [] = set
with_rows set (row ∷ rows) = with_rows (slice_set set row true) rows

-- a set and a row, where it passes
abbrev pub noted : List Bool → ℕ → Bool → List Bool
noted set row passes = if passes then slice_set set row true else set

-- a set and the rows of an id, where it passes
abbrev pub noted_id : List ℕ → ℕ → List Bool → Bool → List Bool
noted_id ids id set passes = if passes then with_rows set (rows_of ids id) else set
