-- What adding a row and taking rows out make of the held rows.
use Rattle.std.specs.Prelude.{◌≡◌, ℕ, List, [], ◌∷◌, true, false, filter, Option, Some, None, Result, Ok, Err, if◌then◌else◌}
use Rattle.std.specs.Ordering.{is_eq}
use Rattle.rt_base.specs.declared.numbers.Sequence.{Sequence}
use Rattle.rt_schema.specs.declared.row.Row.{Row}
use Rattle.rt_upsert.specs.declared.add_refused.AddRefused.{AddRefused}
use Rattle.rt_upsert.specs.declared.add_refused.AddRefused.TheVariants.{Taken, Memory}
use Rattle.rt_upsert.specs.declared.place.Place.{Place}
use Rattle.rt_upsert.specs.Placed.{Placed, PlacedRows, place_cmp, is_held, is_out, stays, with_row}

-- a row is added exactly where none is held at its place; else all is as before
abbrev pub Adds : PlacedRows → PlacedRows → Place → Row → Result (Unit {0}) AddRefused → Type 0
Adds old new place row (Ok done) = (is_held place old.rows ≡ false) × (new ≡ with_row old place row)
Adds old new place row (Err (Taken at)) = (is_held place old.rows ≡ true) × (at ≡ place) × (new ≡ old)
Adds old new place row (Err Memory) = (is_held place old.rows ≡ false) × (new ≡ old)

-- the rows without the one at a place
abbrev pub without : Place → List Placed → List Placed
without place [] = []
without place (x ∷ xs) = if is_eq (place_cmp place x.place) then xs else (x ∷ without place xs)

abbrev pub without_row : Place → PlacedRows → PlacedRows
without_row place held = record held { rows = without place held.rows }

-- what is left where the rows of a sequence are taken out, from one on
abbrev pub left : Sequence → ℕ → PlacedRows → PlacedRows
left sequence from held = record held { rows = filter (stays sequence from) held.rows }

-- a place at which a row of a sequence is held, from a row on; none where there is none
abbrev pub IsNext : List Placed → Sequence → ℕ → Option Place → Type 0
IsNext rows sequence from None = filter (is_out sequence from) rows ≡ []
IsNext rows sequence from (Some place) = (is_held place rows ≡ true) × ((row : Row) → is_out sequence from (record { place = place; row = row }) ≡ true)
