-- What becomes of the rows and their ranks.
use Rattle.std.specs.Prelude.{◌≡◌, ◌≤◌, ℕ, [], Bool, true, false, cond, Option, Some, None, IsSome}
use Rattle.std.specs.declared.cmp.Ordering.TheVariants.{Less}
use Rattle.std.specs.Ordering.{is_eq}
use Rattle.std.specs.Map.{remove_entry}
use Rattle.std.specs.BTreeMap.{BTreeMap, get, insert_entry, is_at, IsOrdered}
use Rattle.std.specs.BTreeSet.{BTreeSet, contains}
use Rattle.rt_base.specs.declared.numbers.Sequence.{Sequence}
use Rattle.rt_schema.specs.declared.row.Row.{Row}
use Rattle.rt_upsert.specs.declared.held.Held.{Held}
use Rattle.rt_upsert.specs.declared.place.Place.{Place}
use Rattle.rt_upsert.specs.declared.rank.Rank.{Rank}
use Rattle.rt_upsert.specs.declared.ranked_rows.RankedRows.{RankedRows}
use Rattle.rt_upsert.specs.Index.{rank_cmp, rank_of}
use Rattle.rt_upsert.specs.Placed.{place_cmp}

abbrev pub IsBlank : RankedRows → Type 0
IsBlank r = (r.rows.entries ≡ []) × IsOrdered place_cmp r.rows × ((place : Place) → get place_cmp r.rows place ≡ None) × ((rank : Rank) → contains rank_cmp r.ranks rank ≡ false)

-- the rows are the same, and so is each rank
pub record IsSame (old new : RankedRows) : Type 0 where
  pub rows : new.rows.entries ≡ old.rows.entries
  pub ranks : (rank : Rank) → contains rank_cmp new.ranks rank ≡ contains rank_cmp old.ranks rank

abbrev pub held_as : Rank → Row → Held
held_as rank row = record { row = row; key = rank.key }

-- a row stands at the place of its rank, and its rank is there; the others are as before
pub record Puts (old new : RankedRows) (rank : Rank) (row : Row) : Type 0 where
  pub rows : new.rows.entries ≡ insert_entry place_cmp old.rows.entries rank.place (held_as rank row)
  pub ordered : IsOrdered place_cmp new.rows
  pub found : (place : Place) → get place_cmp new.rows place ≡ cond (is_eq (place_cmp rank.place place)) (Some (held_as rank row)) (get place_cmp old.rows place)
  pub ranks : (r : Rank) → contains rank_cmp new.ranks r ≡ cond (is_eq (rank_cmp rank r)) true (contains rank_cmp old.ranks r)

-- a new rank is gone again
abbrev pub TakesBack : BTreeSet Rank → BTreeSet Rank → Rank → Bool → Type 0
TakesBack old new rank true = (r : Rank) → contains rank_cmp new r ≡ cond (is_eq (rank_cmp rank r)) false (contains rank_cmp old r)
TakesBack old new rank false = (r : Rank) → contains rank_cmp new r ≡ contains rank_cmp old r

-- the ranks without that of a row
abbrev pub Unranks : BTreeSet Rank → BTreeSet Rank → ℕ → Place → Option Held → Type 0
Unranks old new compare place None = (r : Rank) → contains rank_cmp new r ≡ contains rank_cmp old r
Unranks old new compare place (Some held) = (r : Rank) → contains rank_cmp new r ≡ cond (is_eq (rank_cmp (rank_of compare place held) r)) false (contains rank_cmp old r)

-- no row stands at a place, and the rank of the one that stood there is gone; the others are as before
pub record Takes (old new : RankedRows) (compare : ℕ) (place : Place) : Type 0 where
  pub rows : new.rows.entries ≡ remove_entry (is_at (place_cmp place)) old.rows.entries
  pub ordered : IsOrdered place_cmp new.rows
  pub found : (q : Place) → get place_cmp new.rows q ≡ cond (is_eq (place_cmp place q)) None (get place_cmp old.rows q)
  pub ranks : Unranks old.ranks new.ranks compare place (get place_cmp old.rows place)

-- a place of a sequence from a row on at which a row stands; none where there is none
abbrev pub Follows : BTreeMap Place Held → Sequence → ℕ → Option Place → Type 0
Follows rows sequence from None = (q : Place) → q.sequence ≡ sequence → from ≤ q.row → get place_cmp rows q ≡ None
Follows rows sequence from (Some place) = (place.sequence ≡ sequence) × (from ≤ place.row) × IsSome (get place_cmp rows place)

-- a greater rank of the same key is there
pub record HasLater (ranks : BTreeSet Rank) (rank : Rank) : Type 0 where
  pub later : Rank
  pub key : later.key ≡ rank.key
  pub above : rank_cmp rank later ≡ Less
  pub there : contains rank_cmp ranks later ≡ true

-- no greater rank of the same key is there
abbrev pub IsLast : BTreeSet Rank → Rank → Type 0
IsLast ranks rank = (r : Rank) → r.key ≡ rank.key → rank_cmp rank r ≡ Less → contains rank_cmp ranks r ≡ false

abbrev pub TellsLast : BTreeSet Rank → Rank → Bool → Type 0
TellsLast ranks rank true = IsLast ranks rank
TellsLast ranks rank false = HasLater ranks rank
