-- What a replica asks of the controller.
use Rattle.std.specs.Prelude.{◌≡◌, ◌++◌, ◌∷◌, [], ℕ, length, slice_get, Option, Some, None}
use Rattle.rt_base.specs.declared.numbers.Instance.{Instance}
use Rattle.rt_base.specs.declared.numbers.Partition.{Partition}
use Rattle.rt_base.specs.declared.numbers.Sequence.{Sequence}
use Rattle.rt_model.specs.declared.request.Request.{Request}
use Rattle.rt_model.specs.declared.sent.Sent.{Sent}
use Rattle.rt_consumer.specs.Requests.{size_in}
use Rattle.rt_consumer.specs.declared.consumer.Consumer.{Consumer}
use Rattle.rt_state.specs.Applying.{Next}
use Rattle.rt_state.specs.Finding.{replica_at, passes}
use Rattle.rt_state.specs.Nodes.{with_server}
use Rattle.rt_state.specs.Replicas.{replica_due, replica_tests}
use Rattle.rt_state.specs.Room.{Due, upload_cost, priced, counted}
use Rattle.rt_state.specs.Tests.{met}
use Rattle.rt_state.specs.Tests as test
use Rattle.rt_state.specs.declared.cost.Cost.{Cost}
use Rattle.rt_nodes.specs.declared.server_node.ServerNode.{ServerNode}
use Rattle.rt_state.specs.declared.state.State.{State}
use Rattle.rt_events.specs.declared.outcome.Outcome.TheVariants as told
use Rattle.rt_model.specs.declared.sent.Sent.TheVariants as sent
pub use Rattle.rt_nodes.specs.Requests.{asks_due, AskStep, NodeAsks, extends_now, NodeAsksFor}

-- ---- what is sent

abbrev pub with_sent : State → Sent → State
with_sent w m = record w { sent = w.sent ++ m ∷ [] }

abbrev pub sends : State → Request → Next
sends w q = (with_sent w (sent.Request q), told.Sent (length w.sent) q)

-- ---- report

-- the bytes of the upload that a replica has to send
abbrev pub size_of : Option Consumer → ℕ
size_of None = 0
size_of (Some r) = size_in r.phase

abbrev pub report_by : State → Option Consumer → Due
report_by w o = met (test.due (passes asks_due o) test.none) (priced w (upload_cost (size_of o)))

abbrev pub report_due : State → Instance → Partition → Sequence → Due
report_due w i p q = met (replica_tests w i p q asks_due) (priced w (upload_cost (size_of (replica_at w i p q))))

abbrev pub SendsAt : Option ServerNode → State → Instance → AskStep → Cost → Next → Type 0
SendsAt None w i asks cost x = ⊥
SendsAt (Some old) w i asks cost x =
    (new : ServerNode) × (request : Request) × asks old new request
    × (x ≡ (counted (sends (with_server w i new) request).0 cost, told.Sent (length w.sent) request))

-- the server of that number makes a request, which is sent
abbrev pub SendsRequest : State → Instance → AskStep → Cost → Next → Type 0
SendsRequest w i asks cost x = SendsAt (slice_get w.servers i.0) w i asks cost x

abbrev pub Reports : State → Instance → Partition → Sequence → Cost → Next → Type 0
Reports w i p q cost x = SendsRequest w i (NodeAsks p q) cost x

-- ---- extend

abbrev pub extend_due : State → Instance → Partition → Sequence → Due
extend_due w i p q = replica_due w i p q extends_now

abbrev pub Extends : State → Instance → Partition → Sequence → ℕ → Cost → Next → Type 0
Extends w i p q millis cost x = SendsRequest w i (NodeAsksFor p q millis) cost x
