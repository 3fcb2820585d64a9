-- What callers rely on.
use Rattle.std.proofs.Common.{◌≡◌, ℕ, ◌<◌, List, [], ◌∷◌, length, map, get_or, slice_get, refl, ap, ◌∙◌}
use Rattle.rt_schema.specs.declared.column.Column.{Column}
use Rattle.rt_schema.specs.declared.row.Row.{Row}
use Rattle.rt_schema.specs.declared.schema.Schema.{Schema}
use Rattle.rt_schema.specs.declared.value.Value.{Value}
use Rattle.rt_schema.specs.Row.{IsRowOf}
use Rattle.rt_mutable.specs.Arrivals.{arrivals_of, ids_of}
use Rattle.rt_mutable.specs.Column.{same_value}
use Rattle.rt_mutable.specs.Consuming.{shape_of, FitsColumns}
use Rattle.rt_mutable.proofs.Arriving.{value_of_row}
use Rattle.rt_mutable.proofs.Same.{same_laws, same_exact}

kinds_kept : (indexed : List (List ℕ)) (columns : List Column) → map (λ column. column.kind) columns ≡ map (λ shape. shape.kind) (map (shape_of indexed) columns)
kinds_kept indexed [] = refl
kinds_kept indexed (c ∷ columns) = ap (λ kinds. c.kind ∷ kinds) (kinds_kept indexed columns)

pub rows_fit : (schema : Schema) (indexed : List (List ℕ)) (row : Row) → IsRowOf schema row → FitsColumns (map (shape_of indexed) schema.columns) row
rows_fit schema indexed row h = h ∙ kinds_kept indexed schema.columns

pub ids_lead : (values : List Value) (row : ℕ) → row < length values → slice_get (arrivals_of same_value values) (get_or (ids_of same_value values) row 0) ≡ slice_get values row
ids_lead values row lt = value_of_row same_laws same_exact values row lt
