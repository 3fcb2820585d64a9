use Rattle.rt_server.proofs.Kept.{asks_keep}
use Rattle.rt_server.proofs.server.Server.next_request.Goals as goal

pub invariant_of-self : goal.invariant_of-self
invariant_of-self c = asks_keep c.self.inside.setup _ _ c.self.inside.table c.next_request.new.self c.args.partition c.args.sequence c.next_request.result c.next_request.ensures c.self.invariant
