-- Pages of rows, each with the index of its group.
use Rattle.std.specs.Prelude.{ℕ, List, [], ◌∷◌, map, Option}
use Rattle.rt_schema.specs.declared.row.Row.{Row}
use Rattle.rt_agg.specs.declared.placed_row.PlacedRow.{PlacedRow}
use Rattle.rt_agg.specs.declared.scalar.Scalar.{Scalar}

-- after each row of a page has handed on its scalar, in order
abbrev pub fed : {T : Type 0} → (T → ℕ → Option Scalar → T) → (ℕ → Option Scalar) → List PlacedRow → T → T
fed takes scalars [] taker = taker
fed takes scalars (placed ∷ page) taker = fed takes scalars page (takes taker placed.group (scalars placed.row))

-- the rows of a page
abbrev pub rows_on : (ℕ → Row) → List PlacedRow → List Row
rows_on row_of page = map (λ placed. row_of placed.row) page
