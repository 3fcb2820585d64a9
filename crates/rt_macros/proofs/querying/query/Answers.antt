use Rattle.std.proofs.Common.{subst}
use Rattle.rt_events.specs.declared.event.Event.TheVariants.{Ask}
use Rattle.rt_macros.proofs.Doing.{does_then}
use Rattle.rt_macros.specs.Doing.{Does, Happens}
use Rattle.rt_macros.specs.Outcomes.{asked_in}
use Rattle.rt_macros.specs.Querying.{ByNumber}
use Rattle.rt_macros.proofs.querying.query.Goals as goal

pub returns : goal.returns
returns c =
    does_then (Happens (Ask c.args.query)) (λ outcome. ByNumber (asked_in outcome)) c.args.world.now.state c.act.new.world c.by_number.new.world
    c.in_ok-outcome.outcome c.by_number.result c.in_ok-outcome.ensures
    (subst (λ n. Does (ByNumber n) c.act.new.world.state c.by_number.new.world c.by_number.result) c.asked.ensures c.by_number.ensures)
