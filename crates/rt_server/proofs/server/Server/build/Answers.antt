use Rattle.rt_server.proofs.Kept.{seals_keep}
use Rattle.rt_server.proofs.server.Server.build.Goals as goal

pub invariant_of-self : goal.invariant_of-self
invariant_of-self c = seals_keep c.self.inside.setup c.self.inside.table c.build.new.self c.args.partition c.args.sequence c.build.result c.build.ensures c.self.invariant
