-- The latest rows of a partition's pieces: each row stands at its segment's sequence and its number there.
use Rattle.std.specs.Prelude.{ℕ, ◌+◌, List, [], ◌∷◌, ◌++◌, if◌then◌else◌}
use Rattle.rt_base.specs.declared.numbers.Sequence.{Sequence}
use Rattle.rt_schema.specs.declared.row.Row.{Row}
use Rattle.rt_schema.specs.declared.schema.Schema.{Schema}
use Rattle.rt_upconf.specs.declared.upsert_config.UpsertConfig.{UpsertConfig}
use Rattle.rt_upsert.specs.Latest.{latest_of, rows_in, start_of}
use Rattle.rt_upsert.specs.Placed.{PlacedRows, is_held, with_row}
use Rattle.rt_upsert.specs.declared.place.Place.{Place}
use Rattle.rt_views.specs.Views.{rows_if}
use Rattle.rt_views.specs.declared.found.Found.{Found}
use Rattle.rt_views.specs.declared.view.View.{View}

-- a row put at a place; where one is held there already it stays
abbrev pub put_at : PlacedRows → Place → Row → PlacedRows
put_at held place row = if is_held place held.rows then held else with_row held place row

-- the rows of a piece, from a number on
abbrev pub put_from : Sequence → ℕ → PlacedRows → List Row → PlacedRows
put_from sequence number held [] = held
put_from sequence number held (row ∷ rows) = put_from sequence (number + 1) (put_at held (record { sequence = sequence; row = number }) row) rows

-- the rows of all pieces that were found
abbrev pub put_all : Schema → PlacedRows → List Found → PlacedRows
put_all schema held [] = held
put_all schema held (f ∷ fs) = put_all schema (put_from f.piece.sequence 0 held (rows_if schema f.rows)) fs

-- the latest rows of a partition
abbrev pub latest_found : Schema → UpsertConfig → List Found → List Row
latest_found schema config found = rows_in (latest_of (put_all schema (start_of schema config) found))

-- the latest rows of each partition: one key in two partitions is in each
abbrev pub latest_viewed : Schema → UpsertConfig → List View → List Row
latest_viewed schema config [] = []
latest_viewed schema config (view ∷ views) = latest_found schema config view.found ++ latest_viewed schema config views
