-- The calls of a replica, at its server.
use Rattle.std.specs.Prelude.{◌≡◌, ◌&&◌, nat_lt, ℕ, Bool, true, false, Option, Some, None, Ok}
use Rattle.rt_base.specs.declared.numbers.Moment.{Moment}
use Rattle.rt_base.specs.declared.numbers.Partition.{Partition}
use Rattle.rt_base.specs.declared.numbers.Sequence.{Sequence}
use Rattle.rt_events.specs.declared.outcome.Outcome.{Outcome}
use Rattle.rt_model.specs.declared.replica_state.ReplicaState.{ReplicaState}
use Rattle.rt_consumer.specs.Consumer.{cur, state_of}
use Rattle.rt_consumer.specs.Requests.{rows_in, forced, is_due, builds_in}
use Rattle.rt_consumer.specs.declared.consumer.Consumer.{Consumer}
pub use Rattle.rt_consumer.specs.Next.{takes_in}
use Rattle.rt_server.specs.Calls.{InTable, Takes, Seals, Forces as server_forces, Stops as server_stops}
use Rattle.rt_server.specs.Table.{replica_of}
use Rattle.rt_stream.specs.Feed.{log_meaning}
use Rattle.rt_stream.specs.Log.{Log}
use Rattle.rt_nodes.specs.Steps.{ServerStep}
use Rattle.rt_events.specs.declared.outcome.Outcome.TheVariants as told
use Rattle.rt_model.specs.declared.replica_state.ReplicaState.TheVariants as state

-- the states in which it can be stopped
abbrev pub stops_in : ReplicaState → Bool
stops_in state.InitialConsuming = true
stops_in state.CatchingUp = true
stops_in state.Holding = true
stops_in state.ConsumingToOnline = true
stops_in state.Committing = true
stops_in state.Retaining = false
stops_in state.Retained = false
stops_in state.Committed = false
stops_in state.Discarded = false

abbrev pub consumed_in : Option Consumer → Option Outcome
consumed_in None = None
consumed_in (Some r) = Some (told.Consumed (cur r) (rows_in r.phase) (state_of r.phase))

abbrev pub standing_in : Option Consumer → Option Outcome
standing_in None = None
standing_in (Some r) = Some (told.Stands (state_of r.phase))

abbrev pub built_in : Option Consumer → Option Outcome
built_in None = None
built_in (Some r) = Some (told.Built (rows_in r.phase) (state_of r.phase))

abbrev pub takes_now : ℕ → Consumer → Bool
takes_now max r = takes_in (state_of r.phase) && nat_lt 0 max

abbrev pub NodeConsumes : Partition → Sequence → ℕ → Moment → Log → Log → ServerStep
NodeConsumes p q max now before after old new outcome =
    Takes (log_meaning before) (log_meaning after) old.server.table new.server.table p q max now (Ok tt)
    × InTable old.server new.server × (new.up ≡ old.up)
    × (consumed_in (replica_of new.server.table p q) ≡ Some outcome)

abbrev pub forces_now : Consumer → Bool
forces_now r = is_due (forced r.phase)

abbrev pub NodeForces : Partition → Sequence → ServerStep
NodeForces p q old new outcome =
    server_forces old.server.table new.server.table p q (Ok tt) × InTable old.server new.server × (new.up ≡ old.up)
    × (standing_in (replica_of new.server.table p q) ≡ Some outcome)

abbrev pub stops_now : Consumer → Bool
stops_now r = stops_in (state_of r.phase)

abbrev pub NodeStops : Partition → Sequence → ServerStep
NodeStops p q old new outcome =
    server_stops old.server.table new.server.table p q (Ok tt) × InTable old.server new.server × (new.up ≡ old.up)
    × (standing_in (replica_of new.server.table p q) ≡ Some outcome)

abbrev pub builds_now : Consumer → Bool
builds_now r = builds_in r.phase

abbrev pub NodeBuilds : Partition → Sequence → ServerStep
NodeBuilds p q old new outcome =
    Seals old.server.table new.server.table p q (Ok tt) × InTable old.server new.server × (new.up ≡ old.up)
    × (built_in (replica_of new.server.table p q) ≡ Some outcome)

-- whether there is a replica, and it passes a test
abbrev pub passes : (Consumer → Bool) → Option Consumer → Bool
passes test None = false
passes test (Some r) = test r
