use Rattle.rt_server.proofs.Kept.{takes_keep}
use Rattle.rt_server.proofs.Through.{messages_in}
use Rattle.rt_server.proofs.server.Server.consume.Goals as goal

pub consume-requires : goal.consume-requires
consume-requires g c = messages_in _ _ _ _ _ c.self.view_is c.requires

pub invariant_of-self : goal.invariant_of-self
invariant_of-self g c =
    takes_keep c.self.inside.setup _ _ c.self.inside.table c.consume.new.self c.args.partition c.args.sequence c.args.max c.args.now c.consume.result
    c.consume.ensures c.self.invariant
