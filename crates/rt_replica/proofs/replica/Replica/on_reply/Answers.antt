use Rattle.rt_replica.proofs.Keeps.{replies_is}
use Rattle.rt_replica.proofs.replica.Replica.on_reply.Goals as goal

pub invariant_of-self : goal.invariant_of-self
invariant_of-self c = replies_is c.self.inside.consumer c.on_reply.new.self c.args.reply c.on_reply.ensures.step c.self.invariant
