-- What is kept beside the rows: the number of each key, and the ranks of the rows.
use Rattle.std.specs.Prelude.{◌≡◌, ◌<◌, ℕ, List, map, Bool, false, Option, Some, None, IfSome, slice_get, true}
use Rattle.std.specs.List.{IsDistinct}
use Rattle.std.specs.declared.cmp.Ordering.{Ordering}
use Rattle.std.specs.Ordering.{is_eq}
use Rattle.std.specs.BTreeMap.{BTreeMap, get, IsOrdered}
use Rattle.std.specs.BTreeSet.{BTreeSet, contains}
use Rattle.rt_schema.specs.declared.column.Kind.{Kind}
use Rattle.rt_schema.specs.declared.value.Value.{Value}
use Rattle.rt_schema.specs.Value.{kind_of}
use Rattle.rt_upsert.specs.declared.held.Held.{Held}
use Rattle.rt_upsert.specs.declared.place.Place.{Place}
use Rattle.rt_upsert.specs.declared.rank.Rank.{Rank}
use Rattle.rt_upsert.specs.contracts.rank.RankOrd.TheImpl as rank_ord
use Rattle.rt_upsert.specs.Latest.{key_of, compare_of, same_key}
use Rattle.rt_upsert.specs.Placed.{Placed, place_cmp}

-- by the key's number, then the comparison value, then the place
abbrev pub rank_cmp : Rank → Rank → Ordering
rank_cmp = (rank_ord.ghosts).cmp

abbrev pub placed : Place × Held → Placed
placed e = record { place = e.0; row = e.1.row }

abbrev pub rank_of : ℕ → Place → Held → Rank
rank_of compare place held = record { key = held.key; compare = compare_of compare held.row; place = place }

-- a rank is that of the row at its place
abbrev pub is_rank_of : ℕ → Option Held → Rank → Bool
is_rank_of compare None rank = false
is_rank_of compare (Some held) rank = is_eq (rank_cmp (rank_of compare rank.place held) rank)

-- a held row: of the columns' kinds, at a row number below the greatest, with the number of its key
pub record IsHeld (columns : List Kind) (keys : List ℕ) (numbers : List (List Value)) (place : Place) (held : Held) : Type 0 where
  pub kinds : map kind_of held.row.values ≡ columns
  pub row : place.row < 4294967295
  pub number : List Value
  pub stands : slice_get numbers held.key ≡ Some number
  pub key : same_key (key_of keys held.row) number ≡ true

-- the rows ascend by their places, the keys have one number each, each held row has its key's, and the ranks are those of the held rows
pub record IsIndexed (kinds : List Kind) (keys : List ℕ) (compare : ℕ) (numbers : List (List Value)) (rows : BTreeMap Place Held) (ranks : BTreeSet Rank) : Type 0 where
  pub ordered : IsOrdered place_cmp rows
  pub apart : IsDistinct same_key numbers
  pub held : (place : Place) → IfSome (get place_cmp rows place) (IsHeld kinds keys numbers place)
  pub ranked : (rank : Rank) → contains rank_cmp ranks rank ≡ is_rank_of compare (get place_cmp rows rank.place) rank
