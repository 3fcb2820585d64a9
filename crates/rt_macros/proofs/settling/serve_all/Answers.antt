use Rattle.std.proofs.Common.{◌+◌, ◌-◌, arith}
use Rattle.rt_macros.proofs.Doing.{count_ends, count_goes_on, count_stops}
use Rattle.std.specs.Prelude.{false}
use Rattle.rt_macros.specs.Settling.{ServersTurn, ServerTurn}
use Rattle.rt_macros.proofs.settling.serve_all.Goals as goal

pub loop-at-preserved : goal.loop-at-preserved
loop-at-preserved c = record {
  unspent = c.in-Ok.ensures.0;
  within = omega (arith, c.loop-at-test.true);
  same = count_goes_on (ServerTurn) c.loop-at.at (c.setup.result.now.servers - c.loop-at.at) (c.setup.result.now.servers - (c.loop-at.at + 1)) c.loop-at.busy c.in-Ok.now c.loop-at.world.state c.server_turn.new.world (ServersTurn false c.args.world.now.state) c.loop-at.invariant.same (omega (arith, c.loop-at-test.true)) c.in-Ok.ensures;
}

pub returns-in-Err : goal.returns-in-Err
returns-in-Err c = count_stops (ServerTurn) c.loop-at.at (c.setup.result.now.servers - c.loop-at.at) (c.setup.result.now.servers - (c.loop-at.at + 1)) c.loop-at.busy c.loop-at.world.state c.server_turn.new.world c.in-Err.refusal (ServersTurn false c.args.world.now.state) c.loop-at.invariant.same (omega (arith, c.loop-at-test.true)) c.in-Err.ensures

pub returns : goal.returns
returns c = (
  c.loop-at.invariant.unspent,
  count_ends ServerTurn c.loop-at.at (c.setup.result.now.servers - c.loop-at.at) c.loop-at.busy c.loop-at.world.state (ServersTurn false c.args.world.now.state)
      c.loop-at.invariant.same (omega (arith, c.loop-at-test.false)),
)
