use Rattle.rt_macros.proofs.Doing.{does_then}
use Rattle.rt_macros.specs.Settling.{BuildTurn, ExchangeTurn}
use Rattle.rt_macros.proofs.settling.build_first.Goals as goal

pub returns : goal.returns
returns c =
    does_then (BuildTurn c.args.instance (c.args.partition, c.args.sequence) c.args.busy) (ExchangeTurn c.args.instance (c.args.partition, c.args.sequence)) c.args.world.now.state
    c.attempt.new.world c.exchange_turn.new.world c.in_ok-busy.busy c.exchange_turn.result c.in_ok-busy.ensures c.exchange_turn.ensures
