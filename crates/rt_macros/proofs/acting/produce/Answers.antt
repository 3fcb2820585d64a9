use Rattle.rt_macros.proofs.Applied.{message_comes}
use Rattle.rt_macros.proofs.acting.produce.Goals as goal

pub returns-in-Ok : goal.returns-in-Ok
returns-in-Ok c = message_comes c.args.world.now c.produce.new.self c.args.partition c.args.message.now c.in-Ok._offset c.in-Ok.ensures.step
