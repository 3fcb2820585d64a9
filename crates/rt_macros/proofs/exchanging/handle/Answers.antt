use Rattle.std.proofs.Common.{subst}
use Rattle.rt_events.specs.declared.event.Event.TheVariants.{Deliver}
use Rattle.rt_macros.proofs.Doing.{does_then}
use Rattle.rt_macros.specs.Doing.{Does, Happens}
use Rattle.rt_macros.specs.Exchanging.{AfterDelivery}
use Rattle.rt_macros.specs.Outcomes.{delivered_in}
use Rattle.rt_macros.proofs.exchanging.handle.Goals as goal

pub returns : goal.returns
returns c =
    does_then (Happens (Deliver c.args.request c.args.controller)) (λ outcome. AfterDelivery c.args.controller (delivered_in outcome)) c.args.world.now.state
    c.act.new.world c.after_delivery.new.world c.in_ok-outcome.outcome c.after_delivery.result c.in_ok-outcome.ensures
    (subst (λ d. Does (AfterDelivery c.args.controller d) c.act.new.world.state c.after_delivery.new.world c.after_delivery.result) c.handled.ensures
    c.after_delivery.ensures)
