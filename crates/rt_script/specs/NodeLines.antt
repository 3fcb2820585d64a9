-- The lines of nodes: their lives, what a server reads, and what a controller looks after.
use Rattle.std.specs.Prelude.{ℕ, List, Option, None, Some}
use Rattle.rt_base.specs.declared.gate.NodeId.{NodeId}
use Rattle.rt_base.specs.declared.gate.NodeId.TheVariants.{Server, Controller, Repairer, Broker, Producer}
use Rattle.rt_events.specs.declared.event.Event.{Event}
use Rattle.rt_events.specs.declared.event.Event.TheVariants.{
  CrashServer,
  CrashController,
  RestartServer,
  RestartController,
  See,
  Repair,
  Retain,
}
use Rattle.rt_lines.specs.Words.{then_some, parted_at}
use Rattle.rt_script.specs.declared.node_lines.LedPartition.{LedPartition}
use Rattle.rt_script.specs.Words.{controller_of, instance_of, node_of, partition_of}

abbrev pub crash_at : NodeId → Option Event
crash_at (Server instance) = Some (CrashServer instance)
crash_at (Controller controller) = Some (CrashController controller)
crash_at Repairer = None
crash_at Broker = None
crash_at Producer = None

-- `sK` or `cK`
abbrev pub crash_of : List ℕ → Option Event
crash_of text = then_some (node_of text) crash_at

abbrev pub restart_at : NodeId → Option Event
restart_at (Server instance) = Some (RestartServer instance)
restart_at (Controller controller) = Some (RestartController controller)
restart_at Repairer = None
restart_at Broker = None
restart_at Producer = None

-- `sK` or `cK`
abbrev pub restart_of : List ℕ → Option Event
restart_of text = then_some (node_of text) restart_at

-- `sK`
abbrev pub see_of : List ℕ → Option Event
see_of text = then_some (instance_of text) (λ instance. Some (See instance))

-- `cK P`
abbrev pub led_partition_of : List ℕ → Option LedPartition
led_partition_of text =
    then_some (parted_at 32 text) (λ parts.
    then_some (controller_of parts.0) (λ controller.
    then_some (partition_of parts.1) (λ partition.
    Some (record { controller = controller; partition = partition }))))

-- `cK P`
abbrev pub repair_of : List ℕ → Option Event
repair_of text = then_some (led_partition_of text) (λ at. Some (Repair at.controller at.partition))

-- `cK P`
abbrev pub retain_of : List ℕ → Option Event
retain_of text = then_some (led_partition_of text) (λ at. Some (Retain at.controller at.partition))
