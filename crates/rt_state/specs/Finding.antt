-- Who is there, and who is up.
use Rattle.std.specs.Prelude.{◌&&◌, nat_lt, ℕ, Bool, false, length, slice_get, Option, Some, None, Ok}
use Rattle.rt_base.specs.declared.numbers.ControllerId.{ControllerId}
use Rattle.rt_base.specs.declared.numbers.Instance.{Instance}
use Rattle.rt_base.specs.declared.numbers.Partition.{Partition}
use Rattle.rt_base.specs.declared.numbers.Sequence.{Sequence}
use Rattle.rt_broker.specs.Asking.{Asking}
use Rattle.rt_model.specs.declared.reply.Reply.{Reply}
use Rattle.rt_model.specs.declared.request.Request.{Request}
use Rattle.rt_model.specs.declared.sent.Sent.{Sent}
use Rattle.rt_consumer.specs.declared.consumer.Consumer.{Consumer}
use Rattle.rt_server.specs.Table.{replica_of}
use Rattle.rt_state.specs.Room.{Found}
use Rattle.rt_state.specs.Tests.{Tests, met}
use Rattle.rt_state.specs.Tests as test
use Rattle.rt_nodes.specs.declared.controller_node.ControllerNode.{ControllerNode}
use Rattle.rt_nodes.specs.declared.server_node.ServerNode.{ServerNode}
use Rattle.rt_state.specs.declared.state.State.{State}
use Rattle.rt_model.specs.declared.sent.Sent.TheVariants as sent
pub use Rattle.rt_nodes.specs.Replicas.{passes}

abbrev pub has_partition : State → Partition → Bool
has_partition w p = nat_lt p.0 w.setup.partitions

abbrev pub has_server : State → Instance → Bool
has_server w i = nat_lt i.0 (length w.servers)

abbrev pub has_controller : State → ControllerId → Bool
has_controller w c = nat_lt c.0 (length w.controllers)

abbrev pub is_up : Option ServerNode → Bool
is_up None = false
is_up (Some n) = n.up

abbrev pub is_up_controller : Option ControllerNode → Bool
is_up_controller None = false
is_up_controller (Some n) = n.up

abbrev pub is_server_up : State → Instance → Bool
is_server_up w i = is_up (slice_get w.servers i.0)

abbrev pub is_controller_up : State → ControllerId → Bool
is_controller_up w c = is_up_controller (slice_get w.controllers c.0)

-- a server and a partition that are there, the server being up
abbrev pub server_tests : State → Instance → Partition → Tests
server_tests w i p = test.there (has_server w i && has_partition w p) (test.up (is_server_up w i) test.none)

abbrev pub find_server : State → Instance → Partition → Found
find_server w i p = met (server_tests w i p) (Ok tt)

-- a controller that is there and up
abbrev pub controller_tests : State → ControllerId → Tests
controller_tests w c = test.there (has_controller w c) (test.up (is_controller_up w c) test.none)

abbrev pub find_controller : State → ControllerId → Found
find_controller w c = met (controller_tests w c) (Ok tt)

-- a partition that is there
abbrev pub partition_tests : State → Partition → Tests
partition_tests w p = test.there (has_partition w p) test.none

-- ---- what stands at a server

abbrev pub replica_in : Option ServerNode → Partition → Sequence → Option Consumer
replica_in None p q = None
replica_in (Some n) p q = replica_of n.server.table p q

abbrev pub replica_at : State → Instance → Partition → Sequence → Option Consumer
replica_at w i p q = replica_in (slice_get w.servers i.0) p q

-- ---- messages

abbrev pub request_in : Option Sent → Option Request
request_in None = None
request_in (Some (sent.Request q)) = Some q
request_in (Some (sent.Reply r)) = None

abbrev pub reply_in : Option Sent → Option Reply
reply_in None = None
reply_in (Some (sent.Request q)) = None
reply_in (Some (sent.Reply r)) = Some r

abbrev pub request_at : State → ℕ → Option Request
request_at w m = request_in (slice_get w.sent m)

abbrev pub reply_at : State → ℕ → Option Reply
reply_at w m = reply_in (slice_get w.sent m)

-- ---- queries

abbrev pub query_in : Option (Option Asking) → Option Asking
query_in None = None
query_in (Some asked) = asked

abbrev pub query_at : State → ℕ → Option Asking
query_at w q = query_in (slice_get w.queries q)
