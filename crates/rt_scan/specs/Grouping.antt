-- Groups that are found by ids.
use Rattle.std.specs.Prelude.{◌≡◌, ℕ, ◌≤◌, List, [], ◌∷◌, ◌++◌, Option, Some, None, false, length, slice_get}
use Rattle.std.specs.List.{AllByRecursion, Contains}
use Rattle.rt_schema.specs.declared.row.Row.{Row}
use Rattle.rt_schema.specs.declared.value.Value.{Value}
use Rattle.rt_schema.specs.declared.value.Value.TheVariants.{Bool as Truth}
use Rattle.rt_model.specs.declared.query.Query.{Query}
use Rattle.rt_model.specs.declared.query_parts.ColumnAt.{ColumnAt}
use Rattle.rt_agg.specs.declared.placed_row.PlacedRow.{PlacedRow}
use Rattle.rt_agg.specs.Grouped.{Awaits, Grouped, IsPlaced, keys_in_order}
use Rattle.rt_agg.specs.Paging.{rows_on}
use Rattle.rt_scan.specs.GroupIds.{IsAbsent, Met}
use Rattle.rt_scan.specs.IndexById.{IsAt, IsFree}

-- each key keeps its place
abbrev pub KeysStay : Grouped → Grouped → Type 0
KeysStay old new =
    (i : ℕ) (key : List Value) → slice_get (keys_in_order old) i ≡ Some key → slice_get (keys_in_order new) i ≡ Some key

-- the groups hold rows and await those of a page, which come last
pub record HoldsOrAwaits (query : Query) (row_of : ℕ → Row) (rows : List Row) (page : List PlacedRow) (g : Grouped) : Type 0 where
  pub before : List Row
  pub waits : Awaits query before (rows_on row_of page) g
  pub all : before ++ rows_on row_of page ≡ rows
  pub placed : AllByRecursion (IsPlaced query.groups row_of g) page

module _ {C : Type 0} (value_of : C → ℕ → Value) where
  abbrev pub value_with : Option C → ℕ → Value
  value_with None id = Truth false
  value_with (Some column) id = value_of column id

  -- the value that an id stands for in a column of a table
  abbrev pub value_by : List C → ColumnAt → ℕ → Value
  value_by columns column id = value_with (slice_get columns column.place) id

  -- the key that ids stand for
  abbrev pub key_by : List C → List ColumnAt → List ℕ → List Value
  key_by columns [] ids = []
  key_by columns (c ∷ cs) [] = []
  key_by columns (c ∷ cs) (id ∷ ids) = value_by columns c id ∷ key_by columns cs ids

  -- the index is that of the group whose key the ids stand for
  abbrev pub LeadsTo : List C → List ColumnAt → Grouped → List ℕ → ℕ → Type 0
  LeadsTo columns by groups ids index = slice_get (keys_in_order groups) index ≡ Some (key_by columns by ids)

  -- no lesser id stands for the same value
  abbrev pub IsLeast : List C → ColumnAt → ℕ → Type 0
  IsLeast columns column id = (other : ℕ) → value_by columns column other ≡ value_by columns column id → id ≤ other

  abbrev pub AreLeast : List C → List ColumnAt → List ℕ → Type 0
  AreLeast columns [] [] = Unit {0}
  AreLeast columns [] (id ∷ ids) = ⊥
  AreLeast columns (c ∷ cs) [] = ⊥
  AreLeast columns (c ∷ cs) (id ∷ ids) = IsLeast columns c id × AreLeast columns cs ids

  -- a group has the key that ids stand for
  abbrev pub HasGroup : List C → List ColumnAt → Grouped → List ℕ → Type 0
  HasGroup columns by groups ids = Contains (keys_in_order groups) (key_by columns by ids)

  -- each index is that of the group whose key its ids stand for, and each group is found: the only one where no column
  -- groups the rows, by one id where one does, and else by ids
  pub record Leads (columns : List C) (by : List ColumnAt) (groups : Grouped) (met : Met) : Type 0 where
    pub by_ids : (entry : List ℕ × ℕ) → Contains met.by_ids entry → LeadsTo columns by groups entry.0 entry.1
    pub by_id : (id index : ℕ) → IsAt met.by_id id index → LeadsTo columns by groups (id ∷ []) index
    pub whole : length by ≡ 0 → LeadsTo columns by groups [] 0
    pub one : length by ≡ 1 → (id : ℕ) → AreLeast columns by (id ∷ []) → HasGroup columns by groups (id ∷ []) → IsFree met.by_id id → ⊥
    pub several : 2 ≤ length by → (ids : List ℕ) → AreLeast columns by ids → HasGroup columns by groups ids → IsAbsent met.by_ids ids → ⊥
