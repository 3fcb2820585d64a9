use Rattle.rt_server.proofs.Kept.{replies_keep}
use Rattle.rt_server.proofs.server.Server.on_reply.Goals as goal

pub invariant_of-self : goal.invariant_of-self
invariant_of-self c = replies_keep c.self.inside.setup c.self.inside.table c.on_reply.new.self c.args.reply c.on_reply.result c.on_reply.ensures c.self.invariant
