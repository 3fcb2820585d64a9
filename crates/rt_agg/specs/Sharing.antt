-- Holders that several items share.
use Rattle.std.specs.Prelude.{◌≡◌, ◌<◌, ◌≤◌, ◌⊎◌, ℕ, All, List, [], Some, length, map, slice_get, slice_index_or}
use Rattle.rt_schema.specs.declared.value.Value.{Value}
use Rattle.rt_model.specs.declared.answer.Cell.{Cell}
use Rattle.rt_model.specs.declared.query_parts.ColumnAt.{ColumnAt}
use Rattle.rt_model.specs.declared.query_parts.Item.{Item}
use Rattle.rt_model.specs.declared.query_parts.Item.TheVariants as item
use Rattle.rt_agg.specs.declared.result_holder.ResultHolder.{ResultHolder}
use Rattle.rt_agg.specs.declared.result_holder.ResultHolder.TheVariants.{Key}
use Rattle.rt_agg.specs.ResultHolder.{cell_held, item_of}

-- a holder that no step changes
abbrev pub idle : ResultHolder
idle = Key (record { name = []; place = 0 })

abbrev pub IsIdle : Item → Type 0
IsIdle (item.Column column) = Unit {0}
IsIdle (item.Aggregate aggregate) = ⊥

-- the holders at places
abbrev pub spread : List ℕ → List ResultHolder → List ResultHolder
spread places held = map (λ p. slice_index_or held p idle) places

-- the cells of a group by the holders at places
abbrev pub cells_at : List ColumnAt → List Value → ℕ → List ResultHolder → List ℕ → List Cell
cells_at columns key group held places = map (λ p. cell_held columns key group (slice_index_or held p idle)) places

-- the items at places
abbrev pub items_at : List ℕ → List Item → List Item
items_at places items = map (λ p. slice_index_or items p (item_of idle)) places

-- the first place of an item that is the same as the one at a place
pub record IsFirst (items : List Item) (i place : ℕ) : Type 0 where
  pub within : place ≤ i
  pub same : slice_get items place ≡ slice_get items i
  pub first : (j : ℕ) → j < place → slice_get items j ≡ slice_get items i → ⊥

pub record AreFirsts (items : List Item) (places : List ℕ) : Type 0 where
  pub long : length places ≡ length items
  pub each : (i place : ℕ) → slice_get places i ≡ Some place → IsFirst items i place

-- the item that is held at a place: the one there, where its first place is that one
pub record IsHeld (items : List Item) (places : List ℕ) (i : ℕ) (held : Item) : Type 0 where
  pub own : slice_get places i ≡ Some i → slice_get items i ≡ Some held
  pub other : (slice_get places i ≡ Some i) ⊎ IsIdle held

pub record AreHeld (items : List Item) (places : List ℕ) (count : ℕ) (held : List Item) : Type 0 where
  pub long : length held ≡ count
  pub each : (i : ℕ) (x : Item) → slice_get held i ≡ Some x → IsHeld items places i x

-- of the items that are held each place is the first of what is shown there, and where one isn't shown at its own place it
-- is idle
pub record IsShared (places : List ℕ) (held : List Item) : Type 0 where
  pub within : All (λ p. p < length held) places
  pub firsts : AreFirsts (items_at places held) places
  pub others : (i : ℕ) (x : Item) → slice_get held i ≡ Some x → (slice_get places i ≡ Some i) ⊎ IsIdle x
