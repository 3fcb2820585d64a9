-- What a holder has of each group for one item of the query, and how it takes rows.
use Rattle.std.specs.Prelude.{ℕ, suc, ◌≤◌, List, [], ◌∷◌, ◌++◌, length, take, drop, Option, Some, None, slice_get, slice_index_or, slice_set, pos}
use Rattle.rt_schema.specs.declared.row.Row.{Row}
use Rattle.rt_schema.specs.declared.value.Value.{Value}
use Rattle.rt_model.specs.declared.answer.Cell.{Cell}
use Rattle.rt_model.specs.declared.answer.Cell.TheVariants as cell
use Rattle.rt_model.specs.declared.query_parts.Aggregate.TheVariants as kind
use Rattle.rt_model.specs.declared.query_parts.ColumnAt.{ColumnAt}
use Rattle.rt_model.specs.declared.query_parts.Item.{Item}
use Rattle.rt_model.specs.declared.query_parts.Item.TheVariants as item
use Rattle.rt_model.specs.Aggregate.{value_of_key}
use Rattle.rt_agg.specs.Accumulator.{Accumulator, Column, Count, Sum, Min, Max}
use Rattle.rt_agg.specs.Accumulators.{cell_in, least_with, greatest_with, scalar_cell, with_scalar}
use Rattle.rt_agg.specs.declared.result_holder.ResultHolder.{ResultHolder}
use Rattle.rt_agg.specs.declared.result_holder.ResultHolder.TheVariants.{Key, Counts, Sums, Least, Greatest}
use Rattle.rt_agg.specs.declared.placed_row.PlacedRow.{PlacedRow}
use Rattle.rt_agg.specs.declared.scalar.Scalar.{Scalar}
use Rattle.rt_agg.specs.Reading.{scalar_at}
use Rattle.rt_agg.specs.Summed.{Summed}
use Rattle.rt_agg.specs.Totals.{counted, joined, with_one}

abbrev pub no_rows : Summed
no_rows = record { rows = 0; sum = pos 0 }

-- the item that a holder is for
abbrev pub item_of : ResultHolder → Item
item_of (Key column) = item.Column column
item_of (Counts counts) = item.Aggregate kind.Count
item_of (Sums column totals) = item.Aggregate (kind.Sum column)
item_of (Least column scalars) = item.Aggregate (kind.Min column)
item_of (Greatest column scalars) = item.Aggregate (kind.Max column)

-- what is known of the group of a number, which has this key
abbrev pub held_of : List ColumnAt → List Value → ℕ → ResultHolder → Accumulator
held_of columns key group (Key column) = Column (value_of_key columns key column)
held_of columns key group (Counts counts) = Count (slice_index_or counts group 0)
held_of columns key group (Sums column totals) = Sum column.place (slice_index_or totals group no_rows)
held_of columns key group (Least column scalars) = Min column.place (slice_index_or scalars group None)
held_of columns key group (Greatest column scalars) = Max column.place (slice_index_or scalars group None)

-- the cell of the group of a number, which has this key
abbrev pub cell_held : List ColumnAt → List Value → ℕ → ResultHolder → Cell
cell_held columns key group holder = cell_in (held_of columns key group holder)

-- the cell of a group, where that isn't a value of its key
abbrev pub bare_cell_of : ℕ → ResultHolder → Cell
bare_cell_of group (Key column) = cell.Null
bare_cell_of group (Counts counts) = cell.Whole (pos (slice_index_or counts group 0))
bare_cell_of group (Sums column totals) = cell.Whole (slice_index_or totals group no_rows).sum
bare_cell_of group (Least column scalars) = scalar_cell (slice_index_or scalars group None)
bare_cell_of group (Greatest column scalars) = scalar_cell (slice_index_or scalars group None)

-- so many groups were started
abbrev pub HasStarted : ℕ → ResultHolder → Type 0
HasStarted count (Key column) = Unit {0}
HasStarted count (Counts counts) = count ≤ length counts
HasStarted count (Sums column totals) = count ≤ length totals
HasStarted count (Least column scalars) = count ≤ length scalars
HasStarted count (Greatest column scalars) = count ≤ length scalars

-- an item at a place, over the one that stands there or at the end
abbrev pub put_at : {X : Type 0} → ℕ → X → List X → List X
put_at at x xs = take at xs ++ x ∷ drop (suc at) xs

-- after a group is started
abbrev pub started_in : ℕ → ResultHolder → ResultHolder
started_in group (Key column) = Key column
started_in group (Counts counts) = Counts (put_at group 0 counts)
started_in group (Sums column totals) = Sums column (put_at group no_rows totals)
started_in group (Least column scalars) = Least column (put_at group None scalars)
started_in group (Greatest column scalars) = Greatest column (put_at group None scalars)

-- with one more scalar of a group
abbrev pub summed_at : List Summed → ℕ → Option Scalar → List Summed
summed_at totals group scalar = slice_set totals group (with_scalar scalar (slice_index_or totals group no_rows))

abbrev pub lesser_at : List (Option Scalar) → ℕ → Option Scalar → List (Option Scalar)
lesser_at scalars group scalar = slice_set scalars group (least_with (slice_index_or scalars group None) scalar)

abbrev pub greater_at : List (Option Scalar) → ℕ → Option Scalar → List (Option Scalar)
greater_at scalars group scalar = slice_set scalars group (greatest_with (slice_index_or scalars group None) scalar)

-- with one more row of a group counted
abbrev pub counted_at : List ℕ → ℕ → List ℕ
counted_at counts group = slice_set counts group (with_one (slice_index_or counts group 0))

-- after one more row of a group
abbrev pub with_row_in : Row → ℕ → ResultHolder → ResultHolder
with_row_in row group (Key column) = Key column
with_row_in row group (Counts counts) = Counts (counted_at counts group)
with_row_in row group (Sums column totals) = Sums column (summed_at totals group (scalar_at row column.place))
with_row_in row group (Least column scalars) = Least column (lesser_at scalars group (scalar_at row column.place))
with_row_in row group (Greatest column scalars) = Greatest column (greater_at scalars group (scalar_at row column.place))

-- after the rows of a page, one after the other
abbrev pub with_page_in : (ℕ → Row) → List PlacedRow → ResultHolder → ResultHolder
with_page_in row_of [] holder = holder
with_page_in row_of (placed ∷ page) holder = with_page_in row_of page (with_row_in (row_of placed.row) placed.group holder)

-- an item, with another where there is one
abbrev pub with_other : {X : Type 0} → (X → X → X) → X → Option X → X
with_other join x None = x
with_other join x (Some y) = join x y

-- the item of a group, with that of a group of others where there is one
abbrev pub join_at : {X : Type 0} → (X → X → X) → X → ℕ → List X → ℕ → List X → List X
join_at join none group xs from ys = slice_set xs group (with_other join (slice_index_or xs group none) (slice_get ys from))

-- after the rows of a group of another holder were taken into a group
abbrev pub merged_in : ℕ → ℕ → ResultHolder → ResultHolder → ResultHolder
merged_in group from (Key column) other = Key column
merged_in group from (Counts counts) (Counts others) = Counts (join_at counted 0 group counts from others)
merged_in group from (Counts counts) (Key column) = Counts counts
merged_in group from (Counts counts) (Sums column totals) = Counts counts
merged_in group from (Counts counts) (Least column scalars) = Counts counts
merged_in group from (Counts counts) (Greatest column scalars) = Counts counts
merged_in group from (Sums column totals) (Sums others_column others) = Sums column (join_at joined no_rows group totals from others)
merged_in group from (Sums column totals) (Key key) = Sums column totals
merged_in group from (Sums column totals) (Counts counts) = Sums column totals
merged_in group from (Sums column totals) (Least other scalars) = Sums column totals
merged_in group from (Sums column totals) (Greatest other scalars) = Sums column totals
merged_in group from (Least column scalars) (Least others_column others) = Least column (join_at least_with None group scalars from others)
merged_in group from (Least column scalars) (Key key) = Least column scalars
merged_in group from (Least column scalars) (Counts counts) = Least column scalars
merged_in group from (Least column scalars) (Sums other totals) = Least column scalars
merged_in group from (Least column scalars) (Greatest other others) = Least column scalars
merged_in group from (Greatest column scalars) (Greatest others_column others) = Greatest column (join_at greatest_with None group scalars from others)
merged_in group from (Greatest column scalars) (Key key) = Greatest column scalars
merged_in group from (Greatest column scalars) (Counts counts) = Greatest column scalars
merged_in group from (Greatest column scalars) (Sums other totals) = Greatest column scalars
merged_in group from (Greatest column scalars) (Least other others) = Greatest column scalars
