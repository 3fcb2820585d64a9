-- Groups, and what they hold of the rows that they took.
use Rattle.std.specs.Prelude.{◌≡◌, ℕ, ◌+◌, ◌<◌, ◌++◌, Bool, List, [], ◌∷◌, length, Option, Some, None, IsSome, slice_get, if◌then◌else◌}
use Rattle.std.specs.List.{list_any, AllByRecursion, IsDistinct}
use Rattle.std.specs.Map.{lookup, keys_of}
use Rattle.std.specs.Ordering.{is_eq}
use Rattle.rt_schema.specs.declared.row.Row.{Row}
use Rattle.rt_schema.specs.declared.value.Value.{Value}
use Rattle.rt_model.specs.declared.answer.ResultRow.{ResultRow}
use Rattle.rt_model.specs.declared.query.Query.{Query}
use Rattle.rt_model.specs.declared.query_parts.Aggregate.TheVariants as kind
use Rattle.rt_model.specs.declared.query_parts.ColumnAt.{ColumnAt}
use Rattle.rt_model.specs.declared.query_parts.Item.{Item}
use Rattle.rt_model.specs.declared.query_parts.Item.TheVariants as item
use Rattle.rt_model.specs.declared.query_parts.OrderKey.{OrderKey}
use Rattle.rt_model.specs.Aggregate.{has_key, key_of, group_of, result_rows}
use Rattle.rt_model.specs.Values.{key_cmp}
use Rattle.rt_agg.specs.Accumulator.{Accumulator}
use Rattle.rt_agg.specs.Accumulators.{all_known_of, ordering_items}
use Rattle.rt_agg.specs.declared.placed_row.PlacedRow.{PlacedRow}
use Rattle.rt_agg.specs.Paging.{rows_on}
use Rattle.rt_agg.specs.Reading.{scalar_at}

-- what groups show: the parts of their query, and for each group its key and what is known of its rows
pub record Grouped : Type 0 where
  pub columns : List ColumnAt
  pub items : List Item
  pub order : List OrderKey
  pub limit : ℕ
  pub groups : List (List Value × List Accumulator)

abbrev pub same_key : List Value → List Value → Bool
same_key k l = is_eq (key_cmp k l)

-- the keys of the groups, by their indices
abbrev pub keys_in_order : Grouped → List (List Value)
keys_in_order g = keys_of g.groups

-- what is known at a key, where there is such a group
abbrev pub known_at : Grouped → List Value → Option (List Accumulator)
known_at g key = lookup (same_key key) g.groups

-- whether rows make a group with this key: one of them has it, or there is no GROUP BY and so one group
abbrev pub makes_group : List ColumnAt → List Row → List Value → Bool
makes_group [] rows key = same_key key []
makes_group (c ∷ cs) rows key = list_any (has_key (c ∷ cs) key) rows

-- what is known at a key of some rows
abbrev pub known_if : Query → List Row → List Value → Option (List Accumulator)
known_if query rows key =
    if makes_group query.groups rows key then
    Some (all_known_of query.groups query.items query.order key (group_of query.groups key rows))
    else None

-- SUM, MIN and MAX find a whole number in their column
abbrev pub FitsItem : Row → Item → Type 0
FitsItem row (item.Column column) = Unit {0}
FitsItem row (item.Aggregate kind.Count) = Unit {0}
FitsItem row (item.Aggregate (kind.Sum column)) = IsSome (scalar_at row column.place)
FitsItem row (item.Aggregate (kind.Min column)) = IsSome (scalar_at row column.place)
FitsItem row (item.Aggregate (kind.Max column)) = IsSome (scalar_at row column.place)

abbrev pub Fits : Query → Row → Type 0
Fits query row = AllByRecursion (FitsItem row) (query.items ++ ordering_items query.order)

-- the groups are those of a query, and they hold these rows: a group for each key of a row, with what is
-- known of the rows with that key, and no other group
pub record Holds (query : Query) (rows : List Row) (g : Grouped) : Type 0 where
  pub columns : g.columns ≡ query.groups
  pub items : g.items ≡ query.items
  pub order : g.order ≡ query.order
  pub limit : g.limit ≡ query.limit
  pub apart : IsDistinct same_key (keys_in_order g)
  pub known : (key : List Value) → known_at g key ≡ known_if query rows key
  pub fits : AllByRecursion (Fits query) rows
  pub few : length rows < 9223372036854775808

-- what is known at a key of some rows, where later rows made groups too
abbrev pub known_before : Query → List Row → List Row → List Value → Option (List Accumulator)
known_before query rows later key =
    if makes_group query.groups (rows ++ later) key then
    Some (all_known_of query.groups query.items query.order key (group_of query.groups key rows))
    else None

-- the groups are those of a query, and they hold these rows; the groups of later rows were started too
pub record Awaits (query : Query) (rows later : List Row) (g : Grouped) : Type 0 where
  pub columns : g.columns ≡ query.groups
  pub items : g.items ≡ query.items
  pub order : g.order ≡ query.order
  pub limit : g.limit ≡ query.limit
  pub apart : IsDistinct same_key (keys_in_order g)
  pub known : (key : List Value) → known_at g key ≡ known_before query rows later key
  pub fits : AllByRecursion (Fits query) rows
  pub later_fit : AllByRecursion (Fits query) later
  pub few : length rows + length later < 9223372036854775808

-- what is known at a key before the first row: without GROUP BY there is a group
abbrev pub first_known : List ColumnAt → List Item → List OrderKey → List Value → Option (List Accumulator)
first_known columns items order key = if makes_group columns [] key then Some (all_known_of columns items order key []) else None

-- one more row is awaited, of the group with this key
abbrev pub AwaitsOne : List Value → Grouped → Grouped → Type 0
AwaitsOne key old new =
    (query : Query) (rows later : List Row) (row : Row)
    → Awaits query rows later old
    → key ≡ key_of query.groups row
    → Fits query row
    → length rows + length later + 1 < 9223372036854775808
    → Awaits query rows (later ++ row ∷ []) new

-- the row has the key of its group
abbrev pub IsPlaced : List ColumnAt → (ℕ → Row) → Grouped → PlacedRow → Type 0
IsPlaced columns row_of g placed = slice_get (keys_in_order g) placed.group ≡ Some (key_of columns (row_of placed.row))

-- of the groups of any query that await the rows of a page came those that hold them too
abbrev pub AddsPage : (ℕ → Row) → List PlacedRow → Grouped → Grouped → Type 0
AddsPage row_of page old new =
    (query : Query) (rows : List Row)
    → Awaits query rows (rows_on row_of page) old
    → AllByRecursion (IsPlaced query.groups row_of old) page
    → Holds query (rows ++ rows_on row_of page) new

-- of the groups of any query and any rows came those of the rows and one more
abbrev pub Adds : Row → Grouped → Grouped → Type 0
Adds row old new =
    (query : Query) (rows : List Row)
    → Holds query rows old
    → Fits query row
    → length rows + 1 < 9223372036854775808
    → Holds query (rows ++ row ∷ []) new

-- of the groups of two lists of rows came those of both, one after the other
abbrev pub Merges : Grouped → Grouped → Grouped → Type 0
Merges old other new =
    (query : Query) (rows others : List Row)
    → Holds query rows old
    → Holds query others other
    → length rows + length others < 9223372036854775808
    → Holds query (rows ++ others) new

-- of the groups of any query and any rows comes the answer for them
abbrev pub Finishes : Grouped → List ResultRow → Type 0
Finishes g result =
    (query : Query) (rows : List Row) → Holds query rows g → result ≡ result_rows query rows
