use Rattle.rt_server.proofs.Kept.{asks_for_keep}
use Rattle.rt_server.proofs.server.Server.extend.Goals as goal

pub invariant_of-self : goal.invariant_of-self
invariant_of-self c = asks_for_keep c.self.inside.setup _ _ c.args.millis c.self.inside.table c.extend.new.self c.args.partition c.args.sequence c.extend.result c.extend.ensures c.self.invariant
