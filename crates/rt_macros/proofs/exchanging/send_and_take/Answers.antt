use Rattle.rt_macros.proofs.Doing.{does_then}
use Rattle.rt_macros.specs.Exchanging.{Handles, TakesAnswer}
use Rattle.rt_macros.proofs.exchanging.send_and_take.Goals as goal

pub returns : goal.returns
returns c =
    does_then (Handles c.args.controller c.args.request) (TakesAnswer c.args.request) c.args.world.now.state c.handle.new.world c.take_answer.new.world
    c.in_ok-replied.replied c.take_answer.result c.in_ok-replied.ensures c.take_answer.ensures
