-- A server sees the ideal state, moves its segments, and loads files.
use Rattle.std.specs.Prelude.{Bool, false, slice_get, Option, Some, None}
use Rattle.rt_base.specs.declared.numbers.Instance.{Instance}
use Rattle.rt_base.specs.declared.numbers.Partition.{Partition}
use Rattle.rt_base.specs.declared.numbers.Sequence.{Sequence}
use Rattle.rt_server.specs.Table.{entry_of, wants_at as entry_wants}
use Rattle.rt_server.specs.Transition.{transit_due as server_moves}
use Rattle.rt_state.specs.Applying.{Next}
use Rattle.rt_state.specs.Finding.{has_server, is_server_up, server_tests}
use Rattle.rt_state.specs.Nodes.{ServerCalls, ServerGets}
use Rattle.rt_state.specs.Room.{Due, no_cost, priced}
use Rattle.rt_state.specs.Tests.{Tests, met}
use Rattle.rt_state.specs.Tests as test
use Rattle.rt_state.specs.declared.cost.Cost.{Cost}
use Rattle.rt_nodes.specs.declared.server_node.ServerNode.{ServerNode}
use Rattle.rt_state.specs.declared.state.State.{State}
pub use Rattle.rt_nodes.specs.Servers.{NodeSees, NodeMoves, FindsItsFile, NodeLoads}

abbrev pub moves_in : Option ServerNode → Partition → Sequence → Bool
moves_in None p q = false
moves_in (Some n) p q = server_moves n.server.table p q

abbrev pub moves_at : State → Instance → Partition → Sequence → Bool
moves_at w i p q = moves_in (slice_get w.servers i.0) p q

abbrev pub wants_in : Option ServerNode → Partition → Sequence → Bool
wants_in None p q = false
wants_in (Some n) p q = entry_wants (entry_of n.server.table p q)

abbrev pub wants_at : State → Instance → Partition → Sequence → Bool
wants_at w i p q = wants_in (slice_get w.servers i.0) p q

-- ---- see

abbrev pub see_tests : State → Instance → Tests
see_tests w i = test.there (has_server w i) (test.up (is_server_up w i) test.none)

abbrev pub see_due : State → Instance → Due
see_due w i = met (see_tests w i) (priced w no_cost)

abbrev pub Sees : State → Instance → Cost → Next → Type 0
Sees w i cost x = ServerCalls w i NodeSees cost x

-- ---- transit

abbrev pub transit_tests : State → Instance → Partition → Sequence → Tests
transit_tests w i p q = test.behind (server_tests w i p) (test.due (moves_at w i p q) test.none)

abbrev pub transit_due : State → Instance → Partition → Sequence → Due
transit_due w i p q = met (transit_tests w i p q) (priced w no_cost)

abbrev pub Moves : State → Instance → Partition → Sequence → Cost → Next → Type 0
Moves w i p q cost x = ServerCalls w i (NodeMoves p q w.moment) cost x

-- ---- download

abbrev pub download_tests : State → Instance → Partition → Sequence → Tests
download_tests w i p q = test.behind (server_tests w i p) (test.due (wants_at w i p q) test.none)

abbrev pub download_due : State → Instance → Partition → Sequence → Due
download_due w i p q = met (download_tests w i p q) (priced w no_cost)

abbrev pub Loads : State → Instance → Partition → Sequence → Cost → Next → Type 0
Loads w i p q cost x = ServerGets w i (NodeLoads p q) cost x
