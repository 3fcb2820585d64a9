-- What is known of a segment's rows by the values of one column, and what of it a query asks for.
use Rattle.std.specs.Prelude.{◌≡◌, ℕ, ◌+◌, ◌*◌, ◌/◌, nat_le, Bool, true, false, ◌&&◌, ◌==◌, List, [], ◌∷◌, Option, Some, None, is_some, length, slice_get}
use Rattle.rt_schema.specs.declared.column.Kind.{Kind}
use Rattle.rt_schema.specs.declared.value.Value.{Value}
use Rattle.rt_model.specs.declared.query.Query.{Query}
use Rattle.rt_model.specs.declared.query_parts.Aggregate.TheVariants as kind
use Rattle.rt_model.specs.declared.query_parts.ColumnAt.{ColumnAt}
use Rattle.rt_model.specs.declared.query_parts.Item.{Item}
use Rattle.rt_model.specs.declared.query_parts.Item.TheVariants as item
use Rattle.rt_model.specs.Match.{compares}
use Rattle.rt_model.specs.Tree.{Tree}
use Rattle.rt_model.specs.Tree as tree
use Rattle.rt_segment.specs.Column.{SealedColumn, count_in, kind_in}
use Rattle.rt_segment.specs.Segment.{SealedSegment, rows_of}
use Rattle.rt_agg.specs.Grouped.{Grouped, Holds}
use Rattle.rt_scan.specs.declared.key_test.KeyTest.{KeyTest}
use Rattle.rt_scan.specs.declared.key_test.KeyTest.TheVariants.{Any, Compare}

-- groups that hold all rows of a segment
abbrev pub IsSummary : SealedSegment → Grouped → Type 0
IsSummary segment groups = (over : Query) × Holds over (rows_of segment) groups

-- whether there is a summary of so many aggregates by a column of a segment of so many rows
abbrev pub is_summarized : ℕ → ℕ → SealedColumn → Bool
is_summarized rows aggregates column =
    column.indexed && (nat_le (count_in column.dictionary) 1024 && nat_le (count_in column.dictionary * aggregates) (rows / 32))

-- how many aggregates some groups have together
abbrev pub aggregates_in : List Grouped → ℕ
aggregates_in [] = 0
aggregates_in (g ∷ gs) = length g.items + aggregates_in gs

abbrev pub is_number : Kind → Bool
is_number Kind.Int = true
is_number Kind.Long = true
is_number Kind.Text = false
is_number Kind.Bool = false
is_number Kind.Time = true

-- the column at a place has whole numbers
abbrev pub HasNumbers : List SealedColumn → ℕ → Type 0
HasNumbers columns place = (column : SealedColumn) × (slice_get columns place ≡ Some column) × (is_number (kind_in column.dictionary) ≡ true)

-- an item that each row of these columns fits
abbrev pub IsFitting : List SealedColumn → Item → Type 0
IsFitting columns (item.Column column) = Unit {0}
IsFitting columns (item.Aggregate kind.Count) = Unit {0}
IsFitting columns (item.Aggregate (kind.Sum column)) = HasNumbers columns column.place
IsFitting columns (item.Aggregate (kind.Min column)) = HasNumbers columns column.place
IsFitting columns (item.Aggregate (kind.Max column)) = HasNumbers columns column.place

-- whether a key of one value passes a test
abbrev pub passes_key : KeyTest → List Value → Bool
passes_key Any key = true
passes_key (Compare comparison l) [] = false
passes_key (Compare comparison l) (v ∷ vs) = compares comparison v l.now

-- the filter is a test on a column
abbrev pub IsTestOf : Option Tree → ColumnAt → KeyTest → Type 0
IsTestOf filter column Any = filter ≡ None
IsTestOf filter column (Compare comparison l) = filter ≡ Some (tree.Compare column comparison l.now)

-- whether a query's groups can come of those by a column: they are by this column, or its filter chooses among them
abbrev pub is_asked_by : List ColumnAt → Bool → ColumnAt → Bool
is_asked_by [] filtered column = filtered
is_asked_by (by ∷ []) filtered column = by.place == column.place
is_asked_by (by ∷ (other ∷ others)) filtered column = false

abbrev pub is_asked : Query → ColumnAt → Bool
is_asked query column = is_asked_by query.groups (is_some query.filter) column
