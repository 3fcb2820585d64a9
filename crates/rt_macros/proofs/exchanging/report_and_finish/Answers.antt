use Rattle.rt_macros.proofs.Doing.{does_then}
use Rattle.rt_macros.specs.Doing.{Happens}
use Rattle.rt_macros.specs.Exchanging.{AfterReport}
use Rattle.rt_macros.proofs.exchanging.report_and_finish.Goals as goal

pub returns : goal.returns
returns c =
    does_then (Happens c.args.report) (AfterReport c.args.controller) c.args.world.now.state c.act.new.world c.finish_exchange.new.world
    c.in_ok-outcome.outcome c.finish_exchange.result c.in_ok-outcome.ensures c.finish_exchange.ensures
