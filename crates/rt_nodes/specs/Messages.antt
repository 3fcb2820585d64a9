-- A server takes a reply.
use Rattle.std.specs.Prelude.{Bool, true, false, Option, Some, None}
use Rattle.rt_events.specs.declared.outcome.Outcome.{Outcome}
use Rattle.rt_model.specs.declared.reply.Reply.{Reply}
use Rattle.rt_consumer.specs.Consumer.{state_of}
use Rattle.rt_consumer.specs.declared.consumer.Consumer.{Consumer}
use Rattle.rt_server.specs.Calls.{replied_in}
use Rattle.rt_server.specs.Table.{replica_of}
use Rattle.rt_nodes.specs.declared.server_node.ServerNode.{ServerNode}
use Rattle.rt_events.specs.declared.outcome.Outcome.TheVariants as told

abbrev pub took_by : Reply → Option Consumer → Outcome
took_by r None = told.Ignored
took_by r (Some replica) = told.Took r.number.instance r.partition r.sequence (state_of replica.phase)

abbrev pub took : Bool → Reply → Option Consumer → Outcome
took false r replica = told.Ignored
took true r replica = took_by r replica

-- a server hands a reply to the replica that it is for
abbrev pub node_took : ServerNode → Reply → Outcome × ServerNode
node_took n r =
    let x = replied_in n.server.table r in
    (took x.0 r (replica_of x.1 r.partition r.sequence), record n { server = record n.server { table = x.1 } })
