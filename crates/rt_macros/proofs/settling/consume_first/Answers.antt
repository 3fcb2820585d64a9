use Rattle.rt_macros.proofs.Doing.{does_then}
use Rattle.rt_macros.specs.Settling.{BuildAndExchange, ConsumeTurn}
use Rattle.rt_macros.proofs.settling.consume_first.Goals as goal

pub returns : goal.returns
returns c =
    does_then (ConsumeTurn c.args.pause.now c.args.instance (c.args.partition, c.args.sequence) c.args.busy) (BuildAndExchange c.args.instance (c.args.partition, c.args.sequence)) c.args.world.now.state
    c.consume_turn.new.world c.build_and_exchange.new.world c.in_ok-busy.busy c.build_and_exchange.result c.in_ok-busy.ensures c.build_and_exchange.ensures
