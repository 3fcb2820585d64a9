-- The nodes that there are at first.
use Rattle.std.specs.Prelude.{◌++◌, ◌∷◌, [], ◌==◌, if◌then◌else◌, ℕ, zero, suc, true, List, replicate, None}
use Rattle.rt_controller.specs.Controller.{Controlling, beginning, believing}
use Rattle.rt_model.specs.declared.setup.Setup.{Setup}
use Rattle.rt_server.specs.Fresh.{fresh}
use Rattle.rt_nodes.specs.declared.controller_node.ControllerNode.{ControllerNode}
use Rattle.rt_nodes.specs.declared.server_node.ServerNode.{ServerNode}
use Rattle.rt_nodes.specs.declared.upkeep.Upkeep.{Upkeep}

abbrev pub fresh_server : Setup → ℕ → ServerNode
fresh_server setup i = record { server = fresh setup (record { 0 = i }); up = true }

-- the servers below a count
abbrev pub fresh_servers : Setup → ℕ → List ServerNode
fresh_servers setup zero = []
fresh_servers setup (suc i) = fresh_servers setup i ++ fresh_server setup i ∷ []

abbrev pub fresh_upkeep : ℕ → List Upkeep
fresh_upkeep partitions = replicate partitions (record { repair = None; retirement = None })

-- controller 0 alone believes that it leads
abbrev pub fresh_controlling : Setup → ℕ → Controlling
fresh_controlling setup c =
    if c == 0 then believing (beginning (record { 0 = c }) setup) true else beginning (record { 0 = c }) setup

abbrev pub fresh_controller : Setup → ℕ → ControllerNode
fresh_controller setup c =
    record { controller = fresh_controlling setup c; up = true; upkeep = fresh_upkeep setup.partitions }

-- the controllers below a count
abbrev pub fresh_controllers : Setup → ℕ → List ControllerNode
fresh_controllers setup zero = []
fresh_controllers setup (suc c) = fresh_controllers setup c ++ fresh_controller setup c ∷ []
