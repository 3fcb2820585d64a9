use Rattle.std.proofs.Common.{Ok}
use Rattle.rt_events.specs.declared.event.Event.TheVariants.{Report}
use Rattle.rt_macros.proofs.Doing.{does_tried}
use Rattle.rt_macros.specs.Doing.{Happens}
use Rattle.rt_macros.specs.Settling.{AfterRequest}
use Rattle.rt_macros.proofs.settling.request_turn.Goals as goal

pub returns-in-Ok : goal.returns-in-Ok
returns-in-Ok c =
    does_tried (Happens (Report c.args.instance c.args.partition c.args.sequence)) (AfterRequest c.args.controller c.args.busy) c.args.world.now.state
    c.act.new.world c.finish_turn.new.world (Ok c.in-Ok.outcome) c.finish_turn.result c.in-Ok.ensures.1 c.finish_turn.ensures
