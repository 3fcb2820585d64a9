-- What a group has of its rows: for each item, and then for each key of ORDER BY, what is known so far.
use Rattle.std.specs.Prelude.{pos, List, [], ◌∷◌, ◌++◌, length, map, Option, Some, None, option_and_then, if◌then◌else◌}
use Rattle.std.specs.Ordering.{is_gt}
use Rattle.rt_schema.specs.declared.row.Row.{Row}
use Rattle.rt_schema.specs.declared.value.Value.{Value}
use Rattle.rt_model.specs.declared.answer.Cell.{Cell}
use Rattle.rt_model.specs.declared.answer.Cell.TheVariants as cell
use Rattle.rt_model.specs.declared.query_parts.Aggregate.TheVariants as kind
use Rattle.rt_model.specs.declared.query_parts.ColumnAt.{ColumnAt}
use Rattle.rt_model.specs.declared.query_parts.Item.{Item}
use Rattle.rt_model.specs.declared.query_parts.Item.TheVariants as item
use Rattle.rt_model.specs.declared.query_parts.OrderKey.{OrderKey}
use Rattle.rt_model.specs.Aggregate.{sum_of, least_of, greatest_of, value_of_key}
use Rattle.rt_model.specs.Values.{number_of, value_cmp}
use Rattle.rt_agg.specs.Accumulator.{Accumulator}
use Rattle.rt_agg.specs.Accumulator.{Column, Count, Sum, Min, Max}
use Rattle.rt_agg.specs.declared.scalar.Scalar.{Scalar}
use Rattle.rt_agg.specs.Reading.{scalar_of, scalar_at, value_from}
use Rattle.rt_agg.specs.Summed.{Summed}
use Rattle.rt_agg.specs.Totals.{with_number, with_one, joined, counted}

-- what is known of some rows of the group with this key
abbrev pub known_of : List ColumnAt → List Value → List Row → Item → Accumulator
known_of columns key rows (item.Column column) = Column (value_of_key columns key column)
known_of columns key rows (item.Aggregate kind.Count) = Count (length rows)
known_of columns key rows (item.Aggregate (kind.Sum column)) =
    Sum column.place (record { rows = length rows; sum = sum_of column rows })
known_of columns key rows (item.Aggregate (kind.Min column)) =
    Min column.place (option_and_then scalar_of (least_of column rows))
known_of columns key rows (item.Aggregate (kind.Max column)) =
    Max column.place (option_and_then scalar_of (greatest_of column rows))

-- the cell of what is known
abbrev pub scalar_cell : Option Scalar → Cell
scalar_cell None = cell.Null
scalar_cell (Some s) = cell.Value (value_from s)

abbrev pub cell_in : Accumulator → Cell
cell_in (Column v) = cell.Value v
cell_in (Count n) = cell.Whole (pos n)
cell_in (Sum place t) = cell.Whole t.sum
cell_in (Min place s) = scalar_cell s
cell_in (Max place s) = scalar_cell s

-- the lesser and the greater of two scalars, where there are two
abbrev pub least_with : Option Scalar → Option Scalar → Option Scalar
least_with None t = t
least_with (Some s) None = Some s
least_with (Some s) (Some t) = if is_gt (value_cmp (value_from s) (value_from t)) then Some t else Some s

abbrev pub greatest_with : Option Scalar → Option Scalar → Option Scalar
greatest_with None t = t
greatest_with (Some s) None = Some s
greatest_with (Some s) (Some t) = if is_gt (value_cmp (value_from t) (value_from s)) then Some t else Some s

abbrev pub with_scalar : Option Scalar → Summed → Summed
with_scalar None t = t
with_scalar (Some s) t = with_number (number_of (value_from s)) t

-- what is known after one more row
abbrev pub with_row : Row → Accumulator → Accumulator
with_row row (Column v) = Column v
with_row row (Count n) = Count (with_one n)
with_row row (Sum place t) = Sum place (with_scalar (scalar_at row place) t)
with_row row (Min place s) = Min place (least_with s (scalar_at row place))
with_row row (Max place s) = Max place (greatest_with s (scalar_at row place))

-- what is known of the rows of both
abbrev pub merged : Accumulator → Accumulator → Accumulator
merged (Column v) b = Column v
merged (Count m) (Count n) = Count (counted m n)
merged (Count m) (Column w) = Count m
merged (Count m) (Sum q u) = Count m
merged (Count m) (Min q t) = Count m
merged (Count m) (Max q t) = Count m
merged (Sum p t) (Sum q u) = Sum p (joined t u)
merged (Sum p t) (Column w) = Sum p t
merged (Sum p t) (Count n) = Sum p t
merged (Sum p t) (Min q u) = Sum p t
merged (Sum p t) (Max q u) = Sum p t
merged (Min p s) (Min q t) = Min p (least_with s t)
merged (Min p s) (Column w) = Min p s
merged (Min p s) (Count n) = Min p s
merged (Min p s) (Sum q u) = Min p s
merged (Min p s) (Max q t) = Min p s
merged (Max p s) (Max q t) = Max p (greatest_with s t)
merged (Max p s) (Column w) = Max p s
merged (Max p s) (Count n) = Max p s
merged (Max p s) (Sum q u) = Max p s
merged (Max p s) (Min q t) = Max p s

-- the same of all that a group has
abbrev pub all_merged : List Accumulator → List Accumulator → List Accumulator
all_merged [] bs = []
all_merged (a ∷ rest) [] = a ∷ rest
all_merged (a ∷ rest) (b ∷ bs) = merged a b ∷ all_merged rest bs

-- what the keys of ORDER BY order by
abbrev pub ordering_items : List OrderKey → List Item
ordering_items order = map (λ k. k.item) order

-- what is known of some rows of a group, for the items and then for the keys of ORDER BY
abbrev pub all_known_of : List ColumnAt → List Item → List OrderKey → List Value → List Row → List Accumulator
all_known_of columns items order key rows = map (known_of columns key rows) (items ++ ordering_items order)
