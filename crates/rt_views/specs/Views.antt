-- A view over the present plans: what was found of each piece of each partition.
use Rattle.std.specs.Prelude.{ℕ, ◌&&◌, Bool, true, false, List, [], ◌∷◌, ◌++◌, map, if◌then◌else◌, Option, Some, None, option_map, unwrap_or}
use Rattle.std.specs.List.{list_all, range_with_len}
use Rattle.rt_base.specs.declared.numbers.Instance.{Instance}
use Rattle.rt_base.specs.declared.numbers.Partition.{Partition}
use Rattle.rt_entry.specs.declared.served_rows.ServedRows.{ServedRows}
use Rattle.rt_model.specs.RightAnswer.{AskedPiece, Routed}
use Rattle.rt_model.specs.declared.piece.Piece.{Piece}
use Rattle.rt_schema.specs.Json.{map_all}
use Rattle.rt_schema.specs.Value.{kind_of}
use Rattle.rt_schema.specs.declared.column.Column.{Column}
use Rattle.rt_schema.specs.declared.row.Row.{Row}
use Rattle.rt_schema.specs.declared.schema.Schema.{Schema}
use Rattle.rt_schema.specs.declared.value.Value.{Value}
use Rattle.rt_segment.specs.Segment.{kind_eq}
use Rattle.rt_views.specs.Plans.{assigned_to, first_of, pieces_now, rows_from}
use Rattle.rt_views.specs.declared.found.Found.{Found}
use Rattle.rt_views.specs.declared.view.View.{View}
use Rattle.rt_state.specs.declared.state.State.{State}

-- ---- what is found

-- each piece from the first server that serves it
abbrev pub found_each : State → Partition → Piece → Found
found_each w p piece = record { piece = piece; rows = first_of (rows_from w piece) (assigned_to w p) }

-- a piece that is served
abbrev pub found_from : State → Instance → Piece → Option Found
found_from w i piece = option_map (λ rows. record { piece = piece; rows = Some rows }) (rows_from w piece i)

-- a piece that isn't
abbrev pub unfound : Piece → Found
unfound piece = record { piece = piece; rows = None }

-- each of some pieces from one server, where it serves all of them
abbrev pub all_from : State → List Piece → Instance → Option (List Found)
all_from w pieces i = map_all (found_from w i) pieces

-- all pieces from the first server that serves every one of them; without such a server none is found
abbrev pub found_whole : State → Partition → List Found
found_whole w p = unwrap_or (first_of (all_from w (pieces_now w p)) (assigned_to w p)) (map unfound (pieces_now w p))

-- ---- the views of all partitions

abbrev pub view_each : State → ℕ → View
view_each w p = record { partition = record { 0 = p }; found = map (found_each w (record { 0 = p })) (pieces_now w (record { 0 = p })) }

abbrev pub view_whole : State → ℕ → View
view_whole w p = record { partition = record { 0 = p }; found = found_whole w (record { 0 = p }) }

abbrev pub views_each : State → List View
views_each w = map (view_each w) (range_with_len 0 w.setup.partitions)

abbrev pub views_whole : State → List View
views_whole w = map (view_whole w) (range_with_len 0 w.setup.partitions)

-- ---- what an answer names

abbrev pub asked_of : Found → AskedPiece
asked_of found = record { piece = found.piece; served = option_map (λ served. served.range) found.rows }

abbrev pub routed_of : View → Routed
routed_of view = record { partition = view.partition; pieces = Some (map asked_of view.found) }

-- ---- the rows

abbrev pub are_of : List Value → List Column → Bool
are_of [] [] = true
are_of [] (column ∷ columns) = false
are_of (value ∷ values) [] = false
are_of (value ∷ values) (column ∷ columns) = kind_eq (kind_of value) column.kind && are_of values columns

-- a row of the schema: a value of each column's kind
abbrev pub is_row_of : Schema → Row → Bool
is_row_of schema row = are_of row.values schema.columns

-- the rows of a piece, where all are rows of the schema, as those of a stream are
abbrev pub rows_if : Schema → Option ServedRows → List Row
rows_if schema None = []
rows_if schema (Some served) = if list_all (is_row_of schema) served.rows then served.rows else []

-- the rows of what was found
abbrev pub rows_found : Schema → List Found → List Row
rows_found schema [] = []
rows_found schema (f ∷ fs) = rows_if schema f.rows ++ rows_found schema fs

abbrev pub rows_viewed : Schema → List View → List Row
rows_viewed schema [] = []
rows_viewed schema (view ∷ views) = rows_found schema view.found ++ rows_viewed schema views
