-- Groups of a query that other groups, of more items and perhaps of more rows, tell of.
use Rattle.std.specs.Prelude.{◌≡◌, ◌≤◌, ◌⊎◌, ◌++◌, ℕ, Bool, List, [], ◌∷◌, length, map, Some, slice_get, if◌then◌else◌}
use Rattle.std.specs.List.{AllByRecursion, Contains, IsDistinct}
use Rattle.rt_schema.specs.declared.row.Row.{Row}
use Rattle.rt_schema.specs.declared.value.Value.{Value}
use Rattle.rt_model.specs.declared.query.Query.{Query}
use Rattle.rt_model.specs.declared.query_parts.ColumnAt.{ColumnAt}
use Rattle.rt_model.specs.declared.query_parts.Item.{Item}
use Rattle.rt_model.specs.declared.query_parts.Item.TheVariants as item
use Rattle.rt_model.specs.Aggregate.{key_of, taken, value_of_key}
use Rattle.rt_model.specs.Match.{passes}
use Rattle.rt_agg.specs.Accumulator.{Accumulator, Column}
use Rattle.rt_agg.specs.Accumulators.{ordering_items}
use Rattle.rt_agg.specs.declared.result_holder.ResultHolder.{ResultHolder}
use Rattle.rt_agg.specs.declared.result_holder.ResultHolder.TheVariants.{Key, Counts, Sums, Least, Greatest}
use Rattle.rt_agg.specs.Grouped.{Grouped, Holds, keys_in_order, same_key}
use Rattle.rt_agg.specs.GroupTable.{Tabled}
use Rattle.rt_agg.specs.ResultHolder.{item_of}
use Rattle.rt_agg.specs.Sharing.{IsIdle}

-- the items that are marked
abbrev pub kept : {X : Type 0} → List Bool → List X → List X
kept [] xs = []
kept (mark ∷ marks) [] = []
kept (mark ∷ marks) (x ∷ xs) = if mark then x ∷ kept marks xs else kept marks xs

-- a list, and behind it an item where that is marked
abbrev pub with_marked : {X : Type 0} → Bool → X → List X → List X
with_marked mark x xs = if mark then xs ++ x ∷ [] else xs

-- what a holder has of the groups that are marked
abbrev pub picked_in : List Bool → ResultHolder → ResultHolder
picked_in marks (Key column) = Key column
picked_in marks (Counts counts) = Counts (kept marks counts)
picked_in marks (Sums column totals) = Sums column (kept marks totals)
picked_in marks (Least column scalars) = Least column (kept marks scalars)
picked_in marks (Greatest column scalars) = Greatest column (kept marks scalars)

-- a holder of nothing of its own, or one that has what another has of the groups that are marked
abbrev pub IsPicked : List ResultHolder → List Bool → ResultHolder → Type 0
IsPicked others marks holder =
    IsIdle (item_of holder) ⊎ ((other : ResultHolder) × Contains others other × (holder ≡ picked_in marks other))

-- an aggregate is among items
abbrev pub IsAmong : List Item → Item → Type 0
IsAmong items (item.Column column) = Unit {0}
IsAmong items (item.Aggregate aggregate) = Contains items (item.Aggregate aggregate)

-- what is known for an item of a group with a key, by what is known of the same rows for other items
abbrev pub IsTold : List ColumnAt → List Value → List Item → List Accumulator → Item → Accumulator → Type 0
IsTold columns key items known (item.Column column) wanted = wanted ≡ Column (value_of_key columns key column)
IsTold columns key items known (item.Aggregate aggregate) wanted =
    (place : ℕ) × (slice_get items place ≡ Some (item.Aggregate aggregate)) × (slice_get known place ≡ Some wanted)

abbrev pub AreTold : List ColumnAt → List Value → List Item → List Accumulator → List Item → List Accumulator → Type 0
AreTold columns key items known [] [] = Unit {0}
AreTold columns key items known [] (w ∷ ws) = ⊥
AreTold columns key items known (i ∷ is) [] = ⊥
AreTold columns key items known (i ∷ is) (w ∷ ws) = IsTold columns key items known i w × AreTold columns key items known is ws

-- what is known of each group, by what the marked groups of another table know of the same rows
abbrev pub PicksGroups : List Bool → Tabled → Tabled → Type 0
PicksGroups marks other new =
    (i : ℕ) (key : List Value) (wanted : List Accumulator) (k : List Value) (known : List Accumulator)
    → slice_get new.entries i ≡ Some (key, wanted)
    → slice_get (kept marks other.entries) i ≡ Some (k, known)
    → AreTold new.columns key other.items known new.items wanted

-- the items of groups, and then those of the keys of ORDER BY
abbrev pub all_items : Grouped → List Item
all_items g = g.items ++ ordering_items g.order

-- both lists are of the same one column
abbrev pub AreOneColumn : List ColumnAt → List ColumnAt → Type 0
AreOneColumn one other = (column : ColumnAt) × (one ≡ column ∷ []) × (other ≡ column ∷ [])

-- groups by some columns come of the marked groups of others: those are by the same one column, or there are no columns, and
-- at most one group is marked
abbrev pub TellsKeys : List ColumnAt → List Bool → Grouped → Type 0
TellsKeys [] marks other = length (kept marks other.groups) ≤ 1
TellsKeys (by ∷ columns) marks other = AreOneColumn (by ∷ columns) other.columns

-- the marked groups of others tell of a query's groups: these come of them, and they have the query's aggregates
abbrev pub Tells : Query → List Bool → Grouped → Type 0
Tells query marks other =
    TellsKeys query.groups marks other × AllByRecursion (IsAmong (all_items other)) (query.items ++ ordering_items query.order)

-- what is known of each group of a query, by what the marked groups of others know of the same rows
abbrev pub AreAllTold : Query → List Bool → Grouped → Grouped → Type 0
AreAllTold query marks other new =
    (i : ℕ) (key : List Value) (wanted : List Accumulator) (k : List Value) (known : List Accumulator)
    → slice_get new.groups i ≡ Some (key, wanted)
    → slice_get (kept marks other.groups) i ≡ Some (k, known)
    → AreTold query.groups key (all_items other) known (query.items ++ ordering_items query.order) wanted

-- the groups have the parts of a query
pub record AreOf (query : Query) (g : Grouped) : Type 0 where
  pub columns : g.columns ≡ query.groups
  pub items : g.items ≡ query.items
  pub order : g.order ≡ query.order
  pub limit : g.limit ≡ query.limit
  pub apart : IsDistinct same_key (keys_in_order g)

-- where groups hold any rows, and a test of their keys tells which of the rows a query takes: of the groups that pass it,
-- which are marked, come those of the query
abbrev pub Picks : Query → List Bool → Grouped → Grouped → Type 0
Picks query marks other new =
    (over : Query) (rows : List Row) (test : List Value → Bool)
    → Holds over rows other
    → marks ≡ map test (keys_in_order other)
    → AllByRecursion (λ row. passes query.filter row ≡ test (key_of over.groups row)) rows
    → Holds query (taken query rows) new
