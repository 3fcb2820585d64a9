-- What an event comes to: what it costs was found, or why it can't happen.
use Rattle.std.specs.Prelude.{◌≡◌, Result, Ok, Err}
use Rattle.rt_events.specs.declared.outcome.Outcome.{Outcome}
use Rattle.rt_events.specs.declared.refusal.Refusal.{Refusal}
use Rattle.rt_events.specs.declared.refusal.Refusal.TheVariants.{NoSuchMessage, NoSuchNode, NodeDown, NothingToDo, Limit, Memory}
use Rattle.rt_state.specs.Room.{Due}
use Rattle.rt_state.specs.declared.cost.Cost.{Cost}
use Rattle.rt_state.specs.declared.state.State.{State}

-- a state, and what came of an event
abbrev pub Next : Type 0
Next = State × Outcome

-- it comes to this and nothing else
abbrev pub comes : Next → Next → Type 0
comes wanted next = next ≡ wanted

-- an event that can happen goes so; another changes nothing; memory may run out, and then nothing is said
abbrev pub Applies : State → Due → (Cost → Next → Type 0) → State → Result Outcome Refusal → Type 0
Applies old due goes new (Ok outcome) = (cost : Cost) × (due ≡ Ok cost) × goes cost (new, outcome)
Applies old due goes new (Err Memory) = Unit {0}
Applies old due goes new (Err NoSuchMessage) = (due ≡ Err NoSuchMessage) × (new ≡ old)
Applies old due goes new (Err NoSuchNode) = (due ≡ Err NoSuchNode) × (new ≡ old)
Applies old due goes new (Err NodeDown) = (due ≡ Err NodeDown) × (new ≡ old)
Applies old due goes new (Err NothingToDo) = (due ≡ Err NothingToDo) × (new ≡ old)
Applies old due goes new (Err (Limit which)) = (due ≡ Err (Limit which)) × (new ≡ old)
