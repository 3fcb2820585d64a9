-- A reply that a server takes.
use Rattle.std.proofs.Common.{◌≡◌, Bool, ap, ◌∙◌}
use Rattle.rt_events.specs.declared.outcome.Outcome.{Outcome}
use Rattle.rt_model.specs.declared.reply.Reply.{Reply}
use Rattle.rt_model.specs.declared.setup.Setup.{Setup}
use Rattle.rt_msgs.specs.Numbered.{Numbered}
use Rattle.rt_nodes.specs.Messages.{node_took, took}
use Rattle.rt_nodes.specs.declared.server_node.ServerNode.{ServerNode}
use Rattle.rt_server.specs.Calls.{InTable, replied_in}
use Rattle.rt_server.specs.Table.{Segments, ServerState, replica_of}

-- a server whose table alone has changed
pub table_alone : (old new : ServerState) → InTable old new → new ≡ record old { table = new.table }
table_alone old new k =
    let by_setup : Setup → ServerState = λ s. record new { setup = s } in
    let by_numbers : Numbered → ServerState = λ n. record new { setup = old.setup; numbers = n } in
    ap by_setup k.0 ∙ ap by_numbers k.1

-- what a server tells of a reply, by what its replica did
abbrev took_from : ServerNode → Reply → Bool × Segments → Outcome × ServerNode
took_from n r x =
    (took x.0 r (replica_of x.1 r.partition r.sequence), record n { server = record n.server { table = x.1 } })

pub took_is : (n : ServerNode) (new : ServerState) (r : Reply) (b : Bool) → (b, new.table) ≡ replied_in n.server.table r → InTable n.server new
    → (took b r (replica_of new.table r.partition r.sequence), record n { server = new }) ≡ node_took n r
took_is n new r b e k =
    let told : ServerState → Outcome × ServerNode = λ s. (took b r (replica_of new.table r.partition r.sequence), record n { server = s }) in
    ap told (table_alone n.server new k) ∙ ap (took_from n r) e
