use Rattle.rt_server.proofs.Kept.{forces_keep}
use Rattle.rt_server.proofs.server.Server.force.Goals as goal

pub invariant_of-self : goal.invariant_of-self
invariant_of-self c = forces_keep c.self.inside.setup c.self.inside.table c.force.new.self c.args.partition c.args.sequence c.force.result c.force.ensures c.self.invariant
