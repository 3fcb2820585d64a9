-- Rows with their places, and what a table of them is.
use Rattle.std.specs.Prelude.{◌≡◌, ℕ, ◌==◌, ◌&&◌, Bool, not, nat_le, List, [], ◌∷◌, map}
use Rattle.std.specs.List.{list_any}
use Rattle.std.specs.declared.cmp.Ordering.{Ordering}
use Rattle.std.specs.Ordering.{is_eq, match_ordering}
use Rattle.rt_base.specs.declared.numbers.Sequence.{Sequence}
use Rattle.rt_schema.specs.declared.column.Kind.{Kind}
use Rattle.rt_schema.specs.declared.row.Row.{Row}
use Rattle.rt_schema.specs.declared.schema.Schema.{Schema}
use Rattle.rt_model.specs.declared.query.Query.{Query}
use Rattle.rt_model.specs.Checked.{IsQuery}
use Rattle.rt_upsert.specs.declared.place.Place.{Place}
use Rattle.rt_upsert.specs.contracts.place.PlaceOrd.TheImpl as place_ord

-- by sequence, then row
abbrev pub place_cmp : Place → Place → Ordering
place_cmp = (place_ord.ghosts).cmp

pub record Placed : Type 0 where
  pub place : Place
  pub row : Row

-- the kinds of the columns, the places of the key columns and of the comparison column, and the held rows, by ascending place
pub record PlacedRows : Type 0 where
  pub kinds : List Kind
  pub keys : List ℕ
  pub compare : ℕ
  pub rows : List Placed

abbrev pub kinds_of : Schema → List Kind
kinds_of schema = map (λ column. column.kind) schema.columns

-- one of the rows is at a place
abbrev pub is_held : Place → List Placed → Bool
is_held place rows = list_any (λ x. is_eq (place_cmp place x.place)) rows

-- a row put before the first one whose place is greater
abbrev pub put_in : Placed → List Placed → List Placed
put_in x [] = x ∷ []
put_in x (y ∷ ys) = match_ordering (place_cmp x.place y.place) (x ∷ (y ∷ ys)) (record { place = y.place; row = x.row } ∷ ys) (y ∷ put_in x ys)

abbrev pub with_row : PlacedRows → Place → Row → PlacedRows
with_row held place row = record held { rows = put_in (record { place = place; row = row }) held.rows }

-- the rows of a sequence from one on
abbrev pub is_out : Sequence → ℕ → Placed → Bool
is_out sequence from x = (sequence.0 == x.place.sequence.0) && nat_le from x.place.row

abbrev pub stays : Sequence → ℕ → Placed → Bool
stays sequence from x = not (is_out sequence from x)

-- a query that can be read over a schema of these kinds
abbrev pub IsQueryOver : List Kind → Query → Type 0
IsQueryOver kinds query = (schema : Schema) × (kinds ≡ kinds_of schema) × IsQuery schema query
