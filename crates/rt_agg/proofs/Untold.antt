-- Groups that don't tell of a query's.
use Rattle.std.proofs.Common.{◌≡◌, ℕ, zero, suc, ◌<◌, ◌≤◌, Bool, List, [], ◌∷◌, length, map, Some, refl, subst, arith, slice_get}
use Rattle.std.specs.Prelude.{slice_index_or}
use Rattle.std.specs.List.{AllByRecursion, Contains}
use Rattle.std.proofs.lemmas.List.Elements.{All-from_recursion}
use Rattle.std.proofs.lemmas.Option.{slice_get-get_or}
use Rattle.rt_model.specs.declared.query.Query.{Query}
use Rattle.rt_model.specs.declared.query_parts.ColumnAt.{ColumnAt}
use Rattle.rt_model.specs.declared.query_parts.Item.{Item}
use Rattle.rt_agg.specs.Grouped.{Grouped}
use Rattle.rt_agg.specs.Picking.{AreOneColumn, IsAmong, Tells, TellsKeys, kept}
use Rattle.rt_agg.specs.ResultHolder.{item_of}
use Rattle.rt_agg.specs.Sharing.{idle, spread}
use Rattle.rt_agg.specs.declared.result_holder.ResultHolder.{ResultHolder}

module _ (holders : List ResultHolder) (item : Item) where
  -- the holder at a place isn't for the item
  abbrev pub IsOther : ℕ → Type 0
  IsOther p = item_of (slice_index_or holders p idle) ≡ item → ⊥

  -- none of the first places, so many, has a holder for the item
  abbrev pub AreOthers : List ℕ → ℕ → Type 0
  AreOthers places count = (j p : ℕ) → j < count → slice_get places j ≡ Some p → IsOther p

  none_at : (places : List ℕ) → ((j p : ℕ) → slice_get places j ≡ Some p → IsOther p) → (k : ℕ) → k < length (map item_of (spread places holders))
      → slice_index_or (map item_of (spread places holders)) k item ≡ item → ⊥
  none_at [] others k lt is = omega (arith, lt)
  none_at (p ∷ places) others zero lt is = others 0 p refl is
  none_at (p ∷ places) others (suc k) lt is = none_at places (λ j. others (suc j)) k (omega (arith, lt)) is

  -- where no place has a holder for the item, it isn't among those that are shown
  pub none_shown : (places : List ℕ) → ((j p : ℕ) → slice_get places j ≡ Some p → IsOther p) → Contains (map item_of (spread places holders)) item → ⊥
  none_shown places others there = none_at places others there.0 there.1 there.2

-- where one isn't among items, not all are
pub one_untold : (others items : List Item) (i : ℕ) → i < length items → ((item : Item) → slice_get items i ≡ Some item → IsAmong others item → ⊥) → AllByRecursion (IsAmong others) items → ⊥
one_untold others items i lt none all =
    none (slice_index_or items i (item_of idle)) (slice_get-get_or items i (item_of idle) lt) (All-from_recursion (IsAmong others) items all i (item_of idle) lt)

-- without columns at most one group is marked
pub one_marked : (query : Query) (marks : List Bool) (other : Grouped) → query.groups ≡ [] → Tells query marks other → length (kept marks other.groups) ≤ 1
one_marked query marks other none tells = subst (λ cs. TellsKeys cs marks other) none tells.0

-- with columns they are the same one column
pub one_column : (columns : List ColumnAt) (marks : List Bool) (other : Grouped) → (columns ≡ [] → ⊥) → TellsKeys columns marks other → AreOneColumn columns other.columns
one_column [] marks other some tells = absurd (some refl)
one_column (by ∷ columns) marks other some tells = tells
