-- What the nodes of a cluster are given as it is founded.
use Rattle.std.specs.Prelude.{◌≡◌, ◌+◌, ◌%◌, ◌≤◌, ◌==◌, ℕ, List, [], Option, Some, None, get_or, slice_get, if◌then◌else◌}
use Rattle.atomic_table.specs.Seated.{TableId}
use Rattle.rt_front.specs.Rules.{no_chronicle}
use Rattle.rt_ground.specs.Callers.{new_caller}
use Rattle.rt_ground.specs.declared.blanks.Blanks.{Blanks}
use Rattle.rt_ground.specs.declared.caller.Caller.{Caller}
use Rattle.rt_link.specs.Ends.{taking}
use Rattle.rt_live_input.specs.declared.chaos.Chaos.{Chaos}
use Rattle.rt_live_input.specs.declared.chaos.Crash.{Crash}
use Rattle.rt_live_input.specs.declared.input.Input.{Input}
use Rattle.rt_live_links.specs.Linked.{lines_of}
use Rattle.rt_live_links.specs.declared.all_links.Links.{Links}
use Rattle.rt_live_links.specs.declared.node_links.NodeLinks.{NodeLinks}
use Rattle.rt_live_names.specs.Fronts.{controller_line, server_line}
use Rattle.rt_live_names.specs.Names.{Names}
use Rattle.rt_live_names.specs.Sending.{ArePosts}
use Rattle.rt_live_server.specs.Seat.{Seated}
use Rattle.rt_model.specs.Setup.{IsSetup}
use Rattle.rt_model.specs.Starting.{Starting}
use Rattle.rt_model.specs.declared.setup.Setup.{Setup}
use Rattle.rt_store.specs.Contents.{starting_of}

-- how many envelopes an inbox holds
abbrev pub inbox_size : ℕ
inbox_size = 1024

-- the name at a place; there is none behind the last one
abbrev pub name_at : List TableId → ℕ → TableId
name_at names k = get_or names k no_chronicle

-- the names of a cluster over an input, with these links and these histories of what its servers are asked
abbrev pub names_of : Input → Links → List TableId → Names
names_of input links asked = record {
  setup = input.setup;
  lines = name_at (lines_of links);
  asked = name_at asked;
  rows = input.rows;
  queries = input.queries;
}

-- each item is as its number asks, where the first one has this number
abbrev pub AreFrom : {X : Type 0} → (ℕ → X → Type 0) → ℕ → List X → Type 0
AreFrom {X = X} Is first items = (k : ℕ) (x : X) → slice_get items k ≡ Some x → Is (first + k) x

-- a caller that has seen nothing, of this number
abbrev pub IsCaller : {R J : Type 0} → Blanks → ℕ → Caller R J → Type 0
IsCaller names k caller = caller ≡ new_caller names k

-- the history of what the server of this number is asked
abbrev pub IsAsked : Names → ℕ → TableId → Type 0
IsAsked n k name = name ≡ n.asked k

-- the inbox and the posts of a node, where nothing was posted yet
pub record IsServerPlace (n : Names) (k : ℕ) (node : NodeLinks) : Type 0 where
  pub inbox : node.inbox ≡ taking (n.lines (server_line k)) inbox_size n.setup.controllers [] []
  pub posts : ArePosts n k (controller_line n.setup) [] node.posts.items

pub record IsControllerPlace (n : Names) (k : ℕ) (node : NodeLinks) : Type 0 where
  pub inbox : node.inbox ≡ taking (n.lines (controller_line n.setup k)) inbox_size n.setup.servers [] []
  pub posts : ArePosts n k server_line [] node.posts.items

-- the cluster of these names, over a ground that starts so, in which some controllers lead
pub record IsOfCluster (starting : Starting) (n : Names) (setup : Setup) (chaos : Chaos) : Type 0 where
  pub same : setup ≡ n.setup
  pub is : IsSetup setup
  pub starts : starting_of setup ≡ starting
  pub some_leader : 1 ≤ chaos.leaders
  pub few_leaders : chaos.leaders ≤ setup.controllers

-- the turn in which the server of a number crashes, where it does
abbrev pub crash_at : Option Crash → ℕ → Option ℕ
crash_at None number = None
crash_at (Some crash) number = if crash.instance.0 == number then Some crash.turn else None

-- a server's seat as the chaos line has it: the controller that it asks, when it crashes, and which messages it loses and repeats
pub record IsSeatedBy (chaos : Chaos) (k : ℕ) (seat : Seated) : Type 0 where
  pub number : seat.acting.number ≡ k
  pub controller : seat.controller ≡ k % chaos.leaders
  pub crash : seat.crash ≡ crash_at chaos.crash k
  pub drop : seat.posts.drop ≡ chaos.drop
  pub repeat : seat.posts.repeat ≡ chaos.repeat
