-- Groups by their numbers.
use Rattle.std.specs.Prelude.{◌≡◌, ◌⊎◌, ℕ, suc, cond, List, [], ◌∷◌, ◌++◌, length, map, take, drop, slice_get, Some, None}
use Rattle.std.specs.List.{AllByRecursion, IsDistinct}
use Rattle.std.specs.Map.{lookup, keys_of}
use Rattle.rt_schema.specs.declared.row.Row.{Row}
use Rattle.rt_schema.specs.declared.value.Value.{Value}
use Rattle.rt_model.specs.declared.query_parts.ColumnAt.{ColumnAt}
use Rattle.rt_model.specs.declared.query_parts.Item.{Item}
use Rattle.rt_agg.specs.declared.placed_row.PlacedRow.{PlacedRow}
use Rattle.rt_agg.specs.declared.result_holder.ResultHolder.{ResultHolder}
use Rattle.rt_agg.specs.Accumulator.{Accumulator}
use Rattle.rt_agg.specs.Accumulators.{with_row}
use Rattle.rt_agg.specs.Grouped.{same_key}
use Rattle.rt_agg.specs.ResultHolder.{HasStarted, held_of, merged_in, started_in}

-- what a table shows: the columns of the keys, the items, and of each group its key and what is known of its rows
pub record Tabled : Type 0 where
  pub columns : List ColumnAt
  pub items : List Item
  pub entries : List (List Value × List Accumulator)

-- the groups of keys, counted from a number
abbrev pub entries_from : List ColumnAt → List ResultHolder → ℕ → List (List Value) → List (List Value × List Accumulator)
entries_from columns holders group [] = []
entries_from columns holders group (key ∷ keys) =
    (key, map (held_of columns key group) holders) ∷ entries_from columns holders (suc group) keys

-- no two keys are the same, and each holder has started the group of each
pub record IsTable (holders : List ResultHolder) (keys : List (List Value)) : Type 0 where
  pub apart : IsDistinct same_key keys
  pub started : AllByRecursion (HasStarted (length keys)) holders

-- the first holders have started a group, so many
abbrev pub StartsFront : ℕ → List ResultHolder → List ResultHolder → Type 0
StartsFront group old new = (count : ℕ) × (new ≡ map (started_in group) (take count old) ++ drop count old)

-- some holders have started a group
abbrev pub MayStart : ℕ → ResultHolder → ResultHolder → Type 0
MayStart group old new = (new ≡ old) ⊎ (new ≡ started_in group old)

abbrev pub StartsSome : ℕ → List ResultHolder → List ResultHolder → Type 0
StartsSome group [] [] = Unit {0}
StartsSome group [] (n ∷ ns) = ⊥
StartsSome group (o ∷ os) [] = ⊥
StartsSome group (o ∷ os) (n ∷ ns) = MayStart group o n × StartsSome group os ns

-- each holder after the rows of a group of the others were taken into a group
abbrev pub all_merged_in : ℕ → ℕ → List ResultHolder → List ResultHolder → List ResultHolder
all_merged_in group from [] others = []
all_merged_in group from (h ∷ hs) [] = h ∷ hs
all_merged_in group from (h ∷ hs) (o ∷ os) = merged_in group from h o ∷ all_merged_in group from hs os

-- the columns and the items stay
abbrev pub IsOfSame : Tabled → Tabled → Type 0
IsOfSame old new = (new.columns ≡ old.columns) × (new.items ≡ old.items)

-- one more row of a group: what is known at each key, and no key comes or goes; a row whose group isn't there changes nothing
pub record AddsRow (row : Row) (group : ℕ) (old new : Tabled) : Type 0 where
  pub known : (k : List Value) (known : List Accumulator) → slice_get old.entries group ≡ Some (k, known)
      → (q : List Value) → lookup (same_key q) new.entries ≡ cond (same_key k q) (Some (map (with_row row) known)) (lookup (same_key q) old.entries)
  pub past : slice_get old.entries group ≡ None → new ≡ old
  pub keys : keys_of new.entries ≡ keys_of old.entries
  pub same : IsOfSame old new

-- the rows of a page, one after the other
abbrev pub AddsRows : (ℕ → Row) → List PlacedRow → Tabled → Tabled → Type 0
AddsRows row_of [] old new = new ≡ old
AddsRows row_of (placed ∷ page) old new = (mid : Tabled) × AddsRow (row_of placed.row) placed.group old mid × AddsRows row_of page mid new
