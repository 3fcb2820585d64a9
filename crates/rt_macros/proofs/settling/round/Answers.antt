use Rattle.std.proofs.Common.{false}
use Rattle.rt_macros.proofs.Doing.{does_then}
use Rattle.rt_macros.specs.Settling.{ReplicasOfAll, ServersTurn}
use Rattle.rt_macros.proofs.settling.round.Goals as goal

pub returns : goal.returns
returns c =
    does_then (ServersTurn false) (ReplicasOfAll c.args.pause.now) c.args.world.now.state c.serve_all.new.world c.consume_all.new.world
    c.in_ok-busy.busy c.consume_all.result c.in_ok-busy.ensures c.consume_all.ensures
