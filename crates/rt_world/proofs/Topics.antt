-- Each topic of what is true of every world stays so as all that was produced, written, put and sent grows.
use Rattle.std.proofs.Common.{ℕ, List, Option, Some, None}
use Rattle.std.specs.Prelude.{IfSome}
use Rattle.rt_broker.specs.Asking.{Asking}
use Rattle.rt_broker.proofs.Lasting.{asked_grows}
use Rattle.rt_controller.proofs.Lasts.{controller_lasts}
use Rattle.rt_model.specs.declared.setup.Setup.{Setup}
use Rattle.rt_past.specs.Past.{Past, Grows}
use Rattle.rt_repair.specs.Lasting.{IsRepairOver, IsRetireOver}
use Rattle.rt_repair.proofs.Growing.{repair_lasts, retire_lasts}
use Rattle.rt_server.proofs.LastingGrows.{server_grows}
use Rattle.rt_state.specs.IsSafe.{IsServerAt, IsUpkeepAt, IsControllerAt, IsQueryAsked, IsQueryAt}
use Rattle.rt_state.specs.Places.{AreAt}
use Rattle.rt_nodes.specs.declared.controller_node.ControllerNode.{ControllerNode}
use Rattle.rt_nodes.specs.declared.server_node.ServerNode.{ServerNode}
use Rattle.rt_nodes.specs.declared.upkeep.Upkeep.{Upkeep}
use Rattle.rt_world.proofs.Places.{at_weaker}

pub if_some : {X : Type 0} (P Q : X → Type 0) → ((x : X) → P x → Q x) → (o : Option X) → IfSome o P → IfSome o Q
if_some P Q f None p = p
if_some P Q f (Some x) p = f x p

-- ---- one node

pub server_at_grows : (setup : Setup) (a b : Past) → Grows a b → (i : ℕ) (n : ServerNode) → IsServerAt setup a i n → IsServerAt setup b i n
server_at_grows setup a b g i n s = record { over = server_grows setup a b n.server g s.over; placed = s.placed; down = s.down }

pub upkeep_at_grows : (setup : Setup) (a b : Past) → Grows a b → (p : ℕ) (u : Upkeep) → IsUpkeepAt setup a p u → IsUpkeepAt setup b p u
upkeep_at_grows setup a b g p u k =
    record {
      repair = if_some (IsRepairOver setup a) (IsRepairOver setup b) (λ r. repair_lasts setup a b r g) u.repair k.repair;
      repair_goes = k.repair_goes;
      repairs_its = k.repairs_its;
      retirement = if_some (IsRetireOver setup a) (IsRetireOver setup b) (λ r. retire_lasts setup a b r g) u.retirement k.retirement;
      retirement_goes = k.retirement_goes;
      retires_its = k.retires_its;
    }

pub controller_at_grows : (setup : Setup) (a b : Past) → Grows a b → (c : ℕ) (n : ControllerNode) → IsControllerAt setup a c n → IsControllerAt setup b c n
controller_at_grows setup a b g c n k =
    record {
      over = controller_lasts setup a b n.controller g k.over;
      placed = k.placed;
      partitions = k.partitions;
      upkeep = at_weaker (IsUpkeepAt setup a) (IsUpkeepAt setup b) (upkeep_at_grows setup a b g) n.upkeep k.upkeep;
    }

query_asked_grows : (setup : Setup) (a b : Past) → Grows a b → (x : Asking) → IsQueryAsked setup a x → IsQueryAsked setup b x
query_asked_grows setup a b g x k = record { query = k.query; over = asked_grows setup a b x g k.over }

-- ---- all of them

pub servers_grow : (setup : Setup) (a b : Past) (ns : List ServerNode) → Grows a b → AreAt (IsServerAt setup a) ns → AreAt (IsServerAt setup b) ns
servers_grow setup a b ns g s = at_weaker (IsServerAt setup a) (IsServerAt setup b) (server_at_grows setup a b g) ns s

pub controllers_grow : (setup : Setup) (a b : Past) (ns : List ControllerNode) → Grows a b → AreAt (IsControllerAt setup a) ns → AreAt (IsControllerAt setup b) ns
controllers_grow setup a b ns g s = at_weaker (IsControllerAt setup a) (IsControllerAt setup b) (controller_at_grows setup a b g) ns s

pub queries_grow : (setup : Setup) (a b : Past) (qs : List (Option Asking)) → Grows a b → AreAt (IsQueryAt setup a) qs → AreAt (IsQueryAt setup b) qs
queries_grow setup a b qs g s =
    at_weaker (IsQueryAt setup a) (IsQueryAt setup b) (λ q o k. if_some (IsQueryAsked setup a) (IsQueryAsked setup b) (query_asked_grows setup a b g) o k) qs s
