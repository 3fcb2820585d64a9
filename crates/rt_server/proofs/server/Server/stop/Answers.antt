use Rattle.rt_server.proofs.Kept.{stops_keep}
use Rattle.rt_server.proofs.server.Server.stop.Goals as goal

pub invariant_of-self : goal.invariant_of-self
invariant_of-self c = stops_keep c.self.inside.setup c.self.inside.table c.stop.new.self c.args.partition c.args.sequence c.stop.result c.stop.ensures c.self.invariant
