-- The rows of each id.
use Rattle.std.specs.Prelude.{ℕ, ◌==◌, List, length, map, filter, slice_index}
use Rattle.std.specs.List.{range_with_len}

-- the rows below a row that have an id, ascending
abbrev pub rows_below : List ℕ → ℕ → ℕ → List ℕ
rows_below ids row id = filter (λ r. slice_index ids r == id) (range_with_len 0 row)

-- the rows that have an id, ascending
abbrev pub rows_of : List ℕ → ℕ → List ℕ
rows_of ids id = rows_below ids (length ids) id

-- for each id below the cardinality its rows
abbrev pub postings_of : List ℕ → ℕ → List (List ℕ)
postings_of ids cardinality = map (rows_of ids) (range_with_len 0 cardinality)
