use Rattle.rt_world.proofs.Producing.{told_keep}
use Rattle.rt_world.proofs.world.World.produce.Goals as goal

pub invariant_of-self-else-ran_out : goal.invariant_of-self-else-ran_out
invariant_of-self-else-ran_out c = λ unspent.
    told_keep c.self.inside.state c.args.partition c.args.message.now c.append-came.new.state c.append-came.result (c.ran_out.ensures.no c.if-ran_out.false) (c.self.invariant unspent) c.append-came.ensures
