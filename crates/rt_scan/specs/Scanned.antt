-- Which queries segments can be scanned for.
use Rattle.std.specs.Prelude.{◌≡◌, ℕ, List, map, filter, take, true}
use Rattle.rt_base.specs.declared.numbers.Offset.{Offset}
use Rattle.rt_schema.specs.declared.row.Row.{Row}
use Rattle.rt_schema.specs.declared.schema.Schema.{Schema}
use Rattle.rt_schema.specs.declared.value.Value.{Value}
use Rattle.rt_model.specs.declared.query.Query.{Query}
use Rattle.rt_model.specs.Checked.{IsQuery}
use Rattle.rt_mutable.specs.Consuming.{Consuming, Placed, is_before, values_at}
use Rattle.rt_segment.specs.Segment.{SealedSegment, are_columns}
use Rattle.rt_seek.specs.declared.consuming_column.ConsumingColumn.{ConsumingColumn}
use Rattle.rt_seek.specs.ConsumingColumn.{first_values}

-- the query is one of a schema whose columns are the segment's by name and kind, in order
pub record FitsSealed (query : Query) (sealed : SealedSegment) : Type 0 where
  pub schema : Schema
  pub parsed : IsQuery schema query
  pub columns : are_columns sealed.columns schema.columns ≡ true

pub record FitsConsuming (query : Query) (segment : Consuming) : Type 0 where
  pub schema : Schema
  pub parsed : IsQuery schema query
  pub names : map (λ shape. shape.name) segment.columns ≡ map (λ column. column.name) schema.columns
  pub kinds : map (λ shape. shape.kind) segment.columns ≡ map (λ column. column.kind) schema.columns

-- the rows of earlier offsets
abbrev pub rows_before : Offset → Consuming → List Row
rows_before offset segment = map (λ placed. placed.row) (filter (is_before offset) segment.rows)

-- the values of a column in the first rows
abbrev pub first_at : ℕ → List Placed → ℕ → List Value
first_at count rows place = take count (values_at place rows)

abbrev pub consuming_values : ConsumingColumn → List Value
consuming_values c = first_values c.column.now c.rows
