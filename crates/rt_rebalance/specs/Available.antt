-- Which instances are available while a plan is rehearsed, told from the states alone.
use Rattle.std.specs.Prelude.{◌≡◌, ℕ, Bool, true, false, not, ◌&&◌, List, [], ◌∷◌}
use Rattle.rt_lists.specs.Members.{Has}
use Rattle.rt_model.specs.declared.ideal_state.IdealEntry.{IdealEntry}
use Rattle.rt_model.specs.declared.ideal_state.IdealState.{IdealState}
use Rattle.rt_rebalance.specs.Rehearsed.{Rehearsed, entries_at, has_replica, is_waiting}
use Rattle.rt_rebalance.specs.Segments.{is_online}

-- the present state
abbrev pub present : Rehearsed → List IdealEntry
present r = entries_at r.states r.at

-- an entry's instance is ONLINE and has loaded its segment
abbrev pub is_available : Rehearsed → IdealEntry → Bool
is_available r e = is_online e.mode && not (is_waiting r.waiting e)

-- an entry that is ONLINE in the present state
abbrev pub IsOnlineIn : Rehearsed → IdealEntry → Type 0
IsOnlineIn r e = Has (present r) e × (is_online e.mode ≡ true)

-- no instance has a segment twice
abbrev pub AreOnce : List IdealEntry → Type 0
AreOnce [] = Unit {0}
AreOnce (e ∷ es) = (has_replica es e ≡ false) × AreOnce es

abbrev pub AreStatesOnce : List IdealState → Type 0
AreStatesOnce states = (n : ℕ) → AreOnce (entries_at states n)
