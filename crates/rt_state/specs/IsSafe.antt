-- What is true of every world, by topic: of all that was written, put and sent, and of each node over that.
use Rattle.std.specs.Prelude.{◌≡◌, ℕ, false, List, Option, IfSome, length}
use Rattle.rt_broker.specs.Asking.{Asking}
use Rattle.rt_broker.specs.IsAsked.{IsAsked}
use Rattle.rt_controller.specs.Lasting.{IsControllerOver}
use Rattle.rt_model.specs.Checked.{IsQuery}
use Rattle.rt_model.specs.declared.setup.Setup.{Setup}
use Rattle.rt_model.specs.Setup.{IsSetup}
use Rattle.rt_past.specs.IsPast.{IsPast}
use Rattle.rt_past.specs.Past.{Past}
use Rattle.rt_past.specs.Requests.{AreDrawn}
use Rattle.rt_repair.specs.Lasting.{IsRepairOver, IsRetireOver}
use Rattle.rt_repair.specs.Repairing.{IsUnended as IsUnendedRepair}
use Rattle.rt_repair.specs.Retirement.{IsUnended as IsUnendedRetirement}
use Rattle.rt_server.specs.Lasting.{IsServerOver, IsEmpty}
use Rattle.rt_state.specs.Places.{AreAt}
use Rattle.rt_nodes.specs.declared.controller_node.ControllerNode.{ControllerNode}
use Rattle.rt_nodes.specs.declared.server_node.ServerNode.{ServerNode}
use Rattle.rt_state.specs.declared.state.State.{State}
use Rattle.rt_nodes.specs.declared.upkeep.Upkeep.{Upkeep}

-- all that was produced, written, put and sent
abbrev pub past_of : State → Past
past_of w = record { log = w.log; history = w.store.writes; files = w.deep.files; sent = w.sent }

-- ---- servers

-- the server of this number, with all that lasts of a server; one that is down has forgotten all
pub record IsServerAt (setup : Setup) (past : Past) (i : ℕ) (n : ServerNode) : Type 0 where
  pub over : IsServerOver setup past n.server
  pub placed : n.server.numbers.instance.0 ≡ i
  pub down : n.up ≡ false → IsEmpty n.server

abbrev pub HasDrawn : Past → ℕ → ServerNode → Type 0
HasDrawn past i n = AreDrawn past.sent n.server.numbers

-- ---- controllers

-- what is under way for the partition of this number, a repair and a retirement of it, and hasn't ended
pub record IsUpkeepAt (setup : Setup) (past : Past) (p : ℕ) (u : Upkeep) : Type 0 where
  pub repair : IfSome u.repair (IsRepairOver setup past)
  pub repair_goes : IfSome u.repair (λ r. IsUnendedRepair r.stage)
  pub repairs_its : IfSome u.repair (λ r. r.partition.0 ≡ p)
  pub retirement : IfSome u.retirement (IsRetireOver setup past)
  pub retirement_goes : IfSome u.retirement (λ r. IsUnendedRetirement r.stage)
  pub retires_its : IfSome u.retirement (λ r. r.partition.0 ≡ p)

-- the controller of this number, with all that lasts of a controller
pub record IsControllerAt (setup : Setup) (past : Past) (c : ℕ) (n : ControllerNode) : Type 0 where
  pub over : IsControllerOver setup past n.controller
  pub placed : n.controller.id.0 ≡ c
  pub partitions : length n.upkeep ≡ setup.partitions
  pub upkeep : AreAt (IsUpkeepAt setup past) n.upkeep

-- ---- queries

-- a query that can be read over the schema, with all that lasts of what was asked for it
pub record IsQueryAsked (setup : Setup) (past : Past) (a : Asking) : Type 0 where
  pub query : IsQuery setup.schema a.query
  pub over : IsAsked setup past a

abbrev pub IsQueryAt : Setup → Past → ℕ → Option Asking → Type 0
IsQueryAt setup past q asked = IfSome asked (IsQueryAsked setup past)

-- ---- a world

-- every node is right over what was produced, written, put and sent
pub record IsSafeOver (s : Setup) (a : Past) (ns : List ServerNode) (cs : List ControllerNode) (qs : List (Option Asking)) : Type 0 where
  pub setup : IsSetup s
  pub past : IsPast s a
  pub all_servers : length ns ≡ s.servers
  pub servers : AreAt (IsServerAt s a) ns
  pub drawn : AreAt (HasDrawn a) ns
  pub all_controllers : length cs ≡ s.controllers
  pub controllers : AreAt (IsControllerAt s a) cs
  pub queries : AreAt (IsQueryAt s a) qs

abbrev pub IsSafe : State → Type 0
IsSafe w = IsSafeOver w.setup (past_of w) w.servers w.controllers w.queries
