-- The calls of a replica, through its server.
use Rattle.std.specs.Prelude.{ℕ, Bool}
use Rattle.rt_base.specs.declared.numbers.Instance.{Instance}
use Rattle.rt_base.specs.declared.numbers.Partition.{Partition}
use Rattle.rt_base.specs.declared.numbers.Sequence.{Sequence}
use Rattle.rt_consumer.specs.declared.consumer.Consumer.{Consumer}
use Rattle.rt_state.specs.Applying.{Next}
use Rattle.rt_state.specs.Finding.{passes, replica_at, server_tests}
use Rattle.rt_state.specs.Nodes.{ServerDoes, ServerFetches}
use Rattle.rt_state.specs.Room.{Due, no_cost, priced}
use Rattle.rt_state.specs.Tests.{Tests, met}
use Rattle.rt_state.specs.Tests as test
use Rattle.rt_state.specs.declared.cost.Cost.{Cost}
use Rattle.rt_state.specs.declared.state.State.{State}
pub use Rattle.rt_nodes.specs.Replicas.{takes_in, stops_in, consumed_in, standing_in, built_in, takes_now, NodeConsumes, forces_now, NodeForces, stops_now, NodeStops, builds_now, NodeBuilds}

-- the replica of a segment at a server that is up passes a test
abbrev pub replica_tests : State → Instance → Partition → Sequence → (Consumer → Bool) → Tests
replica_tests w i p q is_due = test.behind (server_tests w i p) (test.due (passes is_due (replica_at w i p q)) test.none)

abbrev pub replica_due : State → Instance → Partition → Sequence → (Consumer → Bool) → Due
replica_due w i p q is_due = met (replica_tests w i p q is_due) (priced w no_cost)

-- ---- consume

abbrev pub consume_due : State → Instance → Partition → Sequence → ℕ → Due
consume_due w i p q max = replica_due w i p q (takes_now max)

abbrev pub Consumes : State → Instance → Partition → Sequence → ℕ → Cost → Next → Type 0
Consumes w i p q max cost x = ServerFetches w i (NodeConsumes p q max w.moment) cost x

-- ---- force, stop, build

abbrev pub force_due : State → Instance → Partition → Sequence → Due
force_due w i p q = replica_due w i p q forces_now

abbrev pub Forces : State → Instance → Partition → Sequence → Cost → Next → Type 0
Forces w i p q cost x = ServerDoes w i (NodeForces p q) cost x

abbrev pub stop_due : State → Instance → Partition → Sequence → Due
stop_due w i p q = replica_due w i p q stops_now

abbrev pub Stops : State → Instance → Partition → Sequence → Cost → Next → Type 0
Stops w i p q cost x = ServerDoes w i (NodeStops p q) cost x

abbrev pub build_due : State → Instance → Partition → Sequence → Due
build_due w i p q = replica_due w i p q builds_now

abbrev pub Builds : State → Instance → Partition → Sequence → Cost → Next → Type 0
Builds w i p q cost x = ServerDoes w i (NodeBuilds p q) cost x
