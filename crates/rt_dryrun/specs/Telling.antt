-- What a call tells, or why it is refused.
use Rattle.std.specs.Prelude.{◌≡◌, Result, Ok, Err}
use Rattle.rt_events.specs.declared.refusal.Refusal.{Refusal}
use Rattle.rt_events.specs.declared.refusal.Refusal.TheVariants.{NoSuchMessage, NoSuchNode, NodeDown, NothingToDo, Limit, Memory}

-- the call tells this, but that memory may run out
abbrev pub Tells : {X : Type 0} → Result X Refusal → Result X Refusal → Type 0
Tells wanted (Ok x) = wanted ≡ Ok x
Tells wanted (Err NoSuchMessage) = wanted ≡ Err NoSuchMessage
Tells wanted (Err NoSuchNode) = wanted ≡ Err NoSuchNode
Tells wanted (Err NodeDown) = wanted ≡ Err NodeDown
Tells wanted (Err NothingToDo) = wanted ≡ Err NothingToDo
Tells wanted (Err (Limit which)) = wanted ≡ Err (Limit which)
Tells wanted (Err Memory) = Unit {0}
