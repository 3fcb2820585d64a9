-- The rows of a partition's pieces, each at its own place: its segment's sequence and its number there.
use Rattle.std.specs.Prelude.{ℕ, ◌+◌, List, [], ◌∷◌, ◌++◌}
use Rattle.rt_base.specs.declared.numbers.Sequence.{Sequence}
use Rattle.rt_model.specs.RightAnswer.{AskedPiece}
use Rattle.rt_schema.specs.declared.row.Row.{Row}
use Rattle.rt_schema.specs.declared.schema.Schema.{Schema}
use Rattle.rt_upsert.specs.Placed.{Placed}
use Rattle.rt_views.specs.Streamed.{streamed}

-- rows of a segment, from a number on
abbrev pub laid_from : Sequence → ℕ → List Row → List Placed
laid_from sequence number [] = []
laid_from sequence number (row ∷ rows) =
    record { place = record { sequence = sequence; row = number }; row = row } ∷ laid_from sequence (number + 1) rows

-- all rows of the ranges over which the pieces were served
abbrev pub laid : Schema → List (List ℕ) → List AskedPiece → List Placed
laid schema messages [] = []
laid schema messages (a ∷ rest) = laid_from a.piece.sequence 0 (streamed schema messages a.served) ++ laid schema messages rest
