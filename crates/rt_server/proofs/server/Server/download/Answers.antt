use Rattle.rt_server.proofs.Loaded.{downloaded_is}
use Rattle.rt_server.proofs.server.Server.download.Goals as goal

pub invariant_of-self : goal.invariant_of-self
invariant_of-self g c =
    downloaded_is c.self.inside.setup _ _ c.self.inside.table c.download.new.self c.args.partition c.args.sequence c.download.result
    c.download.ensures c.self.invariant
