-- A refusal for want of room.
use Rattle.rt_events.specs.declared.refusal.Refusal.{Refusal}
use Rattle.rt_events.specs.declared.refusal.Refusal.TheVariants.{NoSuchMessage, NoSuchNode, NodeDown, NothingToDo, Limit, Memory}

-- it names a limit
abbrev pub IsLimit : Refusal → Type 0
IsLimit (Limit which) = Unit {0}
IsLimit NoSuchMessage = ⊥
IsLimit NoSuchNode = ⊥
IsLimit NodeDown = ⊥
IsLimit NothingToDo = ⊥
IsLimit Memory = ⊥
