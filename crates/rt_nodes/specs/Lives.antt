-- Nodes crash, and are up again.
use Rattle.std.specs.Prelude.{◌≡◌, ◌||◌, ℕ, Bool, true, false, Some, Result, Ok, Err}
use Rattle.rt_controller.specs.Controller.{crashed}
use Rattle.rt_events.specs.declared.outcome.Outcome.{Outcome}
use Rattle.rt_server.specs.Calls.{Restarts, crashed as server_crashed}
use Rattle.rt_entry.specs.declared.refused.ServerRefused.{ServerRefused}
use Rattle.rt_store.specs.Meaning.{Told}
use Rattle.rt_store.specs.Memory.{means}
use Rattle.rt_nodes.specs.Steps.{ServerStep}
use Rattle.rt_nodes.specs.Refused.{outcome_by}
use Rattle.rt_nodes.specs.declared.controller_node.ControllerNode.{ControllerNode}
use Rattle.rt_nodes.specs.declared.server_node.ServerNode.{ServerNode}
use Rattle.rt_events.specs.declared.outcome.Outcome.TheVariants as told

abbrev pub node_crashed : ServerNode → ServerNode
node_crashed n = record { server = server_crashed n.server; up = false }

abbrev pub NodeCrashes : ServerStep
NodeCrashes old new outcome = (new ≡ node_crashed old) × (outcome ≡ told.Down)

-- what is under way for partitions goes on
abbrev pub controller_crashed : ControllerNode → ControllerNode
controller_crashed n = record n { controller = crashed n.controller; up = false }

abbrev pub up_in_incarnation : ℕ → Outcome
up_in_incarnation version = told.Up (Some version)

abbrev pub is_answered : {X : Type 0} → Result X ServerRefused → Bool
is_answered (Ok x) = true
is_answered (Err e) = false

-- where the store failed the server stays down
abbrev pub NodeRestarts : Told → Told → ServerStep
NodeRestarts before after old new outcome =
    (answer : Result ℕ ServerRefused) × Restarts (means before) (means after) old.server new.server answer
    × (outcome_by up_in_incarnation answer ≡ Some outcome) × (new.up ≡ (is_answered answer || old.up))

abbrev pub controller_restarted : ControllerNode → ControllerNode
controller_restarted n = record n { up = true }
