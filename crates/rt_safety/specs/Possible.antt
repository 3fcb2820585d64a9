-- What an event needs to happen beside being due.
use Rattle.std.specs.Prelude.{◌≡◌, ◌≤◌, ◌<◌, ◌^◌, FitsSigned, Some, length}
use Rattle.std.specs.Int.{w32, w64}
use Rattle.std.specs.List.{All}
use Rattle.std.specs.Str.{IsUtf8}
use Rattle.rt_consumer.specs.declared.consumer.Consumer.{Consumer}
use Rattle.rt_consumer.specs.declared.phase.Phase.{Phase}
use Rattle.rt_consumer.specs.declared.phase.Phase.TheVariants as phase
use Rattle.rt_events.specs.declared.event.Event.{Event}
use Rattle.rt_events.specs.declared.event.Event.TheVariants as event
use Rattle.rt_mutable.specs.Column.{Shape}
use Rattle.rt_mutable.specs.Consuming.{Consuming, Placed}
use Rattle.rt_schema.specs.declared.value.Value.{Value}
use Rattle.rt_schema.specs.declared.value.Value.TheVariants as value
use Rattle.rt_state.specs.Finding.{replica_at}
use Rattle.rt_state.specs.declared.state.State.{State}

-- a value as a row of the program has it: a whole number of 32 or of 64 bits, and a text of at most 65,536 bytes
abbrev pub IsOfTypes : Value → Type 0
IsOfTypes (value.Int z) = FitsSigned w32 z
IsOfTypes (value.Long z) = FitsSigned w64 z
IsOfTypes (value.Text s) = IsUtf8 s × (length s ≤ 65536)
IsOfTypes (value.Bool b) = Unit {0}
IsOfTypes (value.Time z) = FitsSigned w64 z

-- rows as a replica of the program has them
pub record AreOfTypes (rows : Consuming) : Type 0 where
  pub few : length rows.rows ≤ 1000000
  pub values : All (λ (placed : Placed). All IsOfTypes placed.row.values) rows.rows
  pub names : All (λ (shape : Shape). IsUtf8 shape.name) rows.columns

abbrev pub HoldsTypes : Phase → Type 0
HoldsTypes (phase.Unsealed o) = AreOfTypes o.rows
HoldsTypes (phase.Retained kept) = Unit {0}
HoldsTypes (phase.Committed kept) = Unit {0}
HoldsTypes (phase.Discarded d) = Unit {0}

-- a replica that seals its rows has rows, and a number of its segment, such as their types hold: each world of a run meets
-- this (rt_made)
abbrev pub IsTyped : State → Event → Type 0
IsTyped w (event.Build i p q) = (r : Consumer) → replica_at w i p q ≡ Some r → (r.sequence.0 < 2 ^ 32) × HoldsTypes r.phase
IsTyped w other = Unit {0}
