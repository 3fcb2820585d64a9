-- In what order instances leave a segment and come to it.
use Rattle.std.specs.Prelude.{◌<◌, ◌≤◌, List, [], ◌∷◌}
use Rattle.std.specs.List.{AllByRecursion}
use Rattle.rt_rebalance.specs.declared.slot.Slot.{Slot}
use Rattle.rt_rebalance.specs.declared.slot.Turn.{Turn}
use Rattle.rt_rebalance.specs.declared.slot.Turn.TheVariants.{Stays, Leaves, Comes}

-- of two that leave, and of two that come, the first goes in no later step
abbrev pub GoesFirst : Turn → Turn → Type 0
GoesFirst Stays turn = Unit {0}
GoesFirst (Leaves step) Stays = Unit {0}
GoesFirst (Leaves step) (Leaves later) = step ≤ later
GoesFirst (Leaves step) (Comes later) = Unit {0}
GoesFirst (Comes step) Stays = Unit {0}
GoesFirst (Comes step) (Leaves later) = Unit {0}
GoesFirst (Comes step) (Comes later) = step ≤ later

-- the lower instance goes first
abbrev pub IsLower : Slot → Slot → Type 0
IsLower low high = (low.entry.instance.0 < high.entry.instance.0) × GoesFirst low.turn high.turn

-- each stands below all behind it, and goes first
abbrev pub AreInTurn : List Slot → Type 0
AreInTurn [] = Unit {0}
AreInTurn (slot ∷ slots) = AllByRecursion (IsLower slot) slots × AreInTurn slots
