-- What a query makes of a list of rows.
use Rattle.std.specs.Prelude.{ℤ, pos, ◌+ℤ◌, Bool, true, false, List, [], ◌∷◌, length, take, map, filter, Option, Some, None, ◌==◌, if◌then◌else◌}
use Rattle.std.specs.declared.cmp.Ordering.{Ordering}
use Rattle.std.specs.declared.cmp.Ordering.TheVariants.{Less, Equal, Greater}
use Rattle.std.specs.Ordering.{is_eq, is_gt, ordering_then, match_ordering, int_cmp}
use Rattle.rt_schema.specs.declared.row.Row.{Row}
use Rattle.rt_schema.specs.declared.value.Value.{Value}
use Rattle.rt_schema.specs.declared.value.Value.TheVariants.{Bool as Truth}
use Rattle.rt_model.specs.declared.answer.Cell.{Cell}
use Rattle.rt_model.specs.declared.answer.Cell.TheVariants as cell
use Rattle.rt_model.specs.declared.answer.ResultRow.{ResultRow}
use Rattle.rt_model.specs.declared.query.Query.{Query}
use Rattle.rt_model.specs.declared.query_parts.Aggregate.{Aggregate}
use Rattle.rt_model.specs.declared.query_parts.Aggregate.TheVariants.{Count, Sum, Min, Max}
use Rattle.rt_model.specs.declared.query_parts.ColumnAt.{ColumnAt}
use Rattle.rt_model.specs.declared.query_parts.Item.{Item}
use Rattle.rt_model.specs.declared.query_parts.Item.TheVariants as item
use Rattle.rt_model.specs.declared.query_parts.OrderKey.{OrderKey}
use Rattle.rt_model.specs.Match.{passes, value_in}
use Rattle.rt_model.specs.Values.{number_of, value_cmp, key_cmp}

-- the rows that a query takes
abbrev pub taken : Query → List Row → List Row
taken query rows = filter (passes query.filter) rows

-- the group of a row: its values of the columns behind GROUP BY
abbrev pub key_of : List ColumnAt → Row → List Value
key_of groups row = map (value_in row) groups

-- a key put into an ascending list of keys, where it isn't there
abbrev pub with_key : List Value → List (List Value) → List (List Value)
with_key key [] = key ∷ []
with_key key (k ∷ ks) = match_ordering (key_cmp key k) (key ∷ (k ∷ ks)) (k ∷ ks) (k ∷ with_key key ks)

-- the groups that have a row, ascending
abbrev pub keys_in : List ColumnAt → List Row → List (List Value)
keys_in groups [] = []
keys_in groups (row ∷ rows) = with_key (key_of groups row) (keys_in groups rows)

-- without GROUP BY all rows are one group, even where there is none
abbrev pub keys_of : List ColumnAt → List Row → List (List Value)
keys_of [] rows = [] ∷ []
keys_of (g ∷ gs) rows = keys_in (g ∷ gs) rows

abbrev pub has_key : List ColumnAt → List Value → Row → Bool
has_key groups key row = is_eq (key_cmp (key_of groups row) key)

-- the rows of a group
abbrev pub group_of : List ColumnAt → List Value → List Row → List Row
group_of groups key rows = filter (has_key groups key) rows

abbrev pub sum_of : ColumnAt → List Row → ℤ
sum_of column [] = pos 0
sum_of column (row ∷ rows) = number_of (value_in row column) +ℤ sum_of column rows

abbrev pub lesser : Value → Option Value → Value
lesser v None = v
lesser v (Some w) = if is_gt (value_cmp v w) then w else v

abbrev pub greater : Value → Option Value → Value
greater v None = v
greater v (Some w) = if is_gt (value_cmp w v) then w else v

abbrev pub least_of : ColumnAt → List Row → Option Value
least_of column [] = None
least_of column (row ∷ rows) = Some (lesser (value_in row column) (least_of column rows))

abbrev pub greatest_of : ColumnAt → List Row → Option Value
greatest_of column [] = None
greatest_of column (row ∷ rows) = Some (greater (value_in row column) (greatest_of column rows))

abbrev pub cell_if : Option Value → Cell
cell_if None = cell.Null
cell_if (Some v) = cell.Value v

abbrev pub aggregate_cell : Aggregate → List Row → Cell
aggregate_cell Count rows = cell.Whole (pos (length rows))
aggregate_cell (Sum column) rows = cell.Whole (sum_of column rows)
aggregate_cell (Min column) rows = cell_if (least_of column rows)
aggregate_cell (Max column) rows = cell_if (greatest_of column rows)

-- the value of a column in a key of these columns
abbrev pub value_of_key : List ColumnAt → List Value → ColumnAt → Value
value_of_key [] key column = Truth false
value_of_key (g ∷ gs) [] column = Truth false
value_of_key (g ∷ gs) (v ∷ vs) column = if g.place == column.place then v else value_of_key gs vs column

-- the cell of an item for a group and its rows
abbrev pub cell_of : List ColumnAt → List Value → List Row → Item → Cell
cell_of groups key rows (item.Column column) = cell.Value (value_of_key groups key column)
cell_of groups key rows (item.Aggregate a) = aggregate_cell a rows

-- a group's result: its key, what it is ordered by, and its row
pub record Result : Type 0 where
  pub key : List Value
  pub order : List Cell
  pub row : ResultRow

abbrev pub result_from : Query → List Value → List Row → Result
result_from query key rows =
    record {
      key = key;
      order = map (λ k. cell_of query.groups key rows k.item) query.order;
      row = record { cells = map (cell_of query.groups key rows) query.items };
    }

abbrev pub result_of : Query → List Row → List Value → Result
result_of query rows key = result_from query key (group_of query.groups key rows)

-- the results of all groups, by their keys
abbrev pub results_of : Query → List Row → List Result
results_of query rows = map (result_of query rows) (keys_of query.groups rows)

-- cells by their values; nothing comes first
abbrev pub cell_cmp : Cell → Cell → Ordering
cell_cmp cell.Null cell.Null = Equal
cell_cmp cell.Null (cell.Whole n) = Less
cell_cmp cell.Null (cell.Value w) = Less
cell_cmp (cell.Whole m) cell.Null = Greater
cell_cmp (cell.Whole m) (cell.Whole n) = int_cmp m n
cell_cmp (cell.Whole m) (cell.Value w) = Less
cell_cmp (cell.Value v) cell.Null = Greater
cell_cmp (cell.Value v) (cell.Whole n) = Greater
cell_cmp (cell.Value v) (cell.Value w) = value_cmp v w

-- descending, the other way round
abbrev pub directed_cmp : Bool → Cell → Cell → Ordering
directed_cmp true c d = cell_cmp d c
directed_cmp false c d = cell_cmp c d

-- the first of some cells, and those after it; where there is none, it is nothing
abbrev pub first_cell : List Cell → Cell
first_cell [] = cell.Null
first_cell (c ∷ cs) = c

abbrev pub later_cells : List Cell → List Cell
later_cells [] = []
later_cells (c ∷ cs) = cs

-- cells for the keys of ORDER BY: the first key decides, then the next
abbrev pub order_cmp : List OrderKey → List Cell → List Cell → Ordering
order_cmp [] cs ds = Equal
order_cmp (k ∷ ks) cs ds =
    ordering_then
    (directed_cmp k.descending (first_cell cs) (first_cell ds))
    (order_cmp ks (later_cells cs) (later_cells ds))

-- results by ORDER BY, and where that ties by their keys
abbrev pub result_cmp : List OrderKey → Result → Result → Ordering
result_cmp order r s = ordering_then (order_cmp order r.order s.order) (key_cmp r.key s.key)

abbrev pub placed : List OrderKey → Result → List Result → List Result
placed order r [] = r ∷ []
placed order r (s ∷ ss) = if is_gt (result_cmp order r s) then s ∷ placed order r ss else r ∷ (s ∷ ss)

abbrev pub ordered : List OrderKey → List Result → List Result
ordered order [] = []
ordered order (r ∷ rs) = placed order r (ordered order rs)

-- the result rows of taken rows, as many as the limit lets stand
abbrev pub result_rows : Query → List Row → List ResultRow
result_rows query rows = map (λ r. r.row) (take query.limit (ordered query.order (results_of query rows)))

-- the result rows of a query over a list of rows
abbrev pub aggregate : Query → List Row → List ResultRow
aggregate query rows = result_rows query (taken query rows)
