-- What a replica has to do next.
use Rattle.std.specs.Prelude.{Bool, true, false, if◌then◌else◌, Option, Some, None}
use Rattle.rt_base.specs.declared.numbers.Moment.{Moment}
use Rattle.rt_base.specs.declared.numbers.Offset.{Offset}
use Rattle.rt_model.specs.declared.replica_state.ReplicaState.{ReplicaState}
use Rattle.rt_model.specs.declared.replica_state.ReplicaState.TheVariants as state
use Rattle.rt_consumer.specs.declared.next.ReplicaDue.{ReplicaDue}
use Rattle.rt_consumer.specs.declared.next.ReplicaDue.TheVariants.{Consume, Build, Ask}
use Rattle.rt_consumer.specs.declared.consumer.Consumer.{Consumer}
use Rattle.rt_consumer.specs.Consumer.{state_of}
use Rattle.rt_consumer.specs.Requests.{asks_now, builds_in, is_ready}

-- whether a replica in a state takes messages
abbrev pub takes_in : ReplicaState → Bool
takes_in state.InitialConsuming = true
takes_in state.CatchingUp = true
takes_in state.ConsumingToOnline = true
takes_in state.Holding = false
takes_in state.Retaining = false
takes_in state.Retained = false
takes_in state.Committing = false
takes_in state.Committed = false
takes_in state.Discarded = false

-- one that takes messages consumes as long as there is something for it, and builds and asks nothing; any other builds
-- before it asks
abbrev pub next_of : Consumer → Offset → Moment → Option ReplicaDue
next_of r size now =
    if takes_in (state_of r.phase) then if is_ready r size now then Some Consume else None
    else if builds_in r.phase then Some Build
    else if asks_now r.phase then Some Ask
    else None
