-- What a server's own step may be: the server before it and after it, and what came of it.
use Rattle.rt_events.specs.declared.outcome.Outcome.{Outcome}
use Rattle.rt_nodes.specs.declared.server_node.ServerNode.{ServerNode}

abbrev pub ServerStep : Type 1
ServerStep = ServerNode → ServerNode → Outcome → Type 0
