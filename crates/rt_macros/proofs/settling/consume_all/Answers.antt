use Rattle.std.proofs.Common.{◌+◌, ◌-◌, arith}
use Rattle.rt_macros.proofs.Doing.{count_ends, count_goes_on, count_stops}
use Rattle.rt_macros.specs.Settling.{ReplicasOfAll, ReplicasTurn}
use Rattle.rt_macros.proofs.settling.consume_all.Goals as goal

pub loop-at-preserved : goal.loop-at-preserved
loop-at-preserved c = record {
  unspent = c.in-Ok.ensures.0;
  within = omega (arith, c.loop-at-test.true);
  same = count_goes_on (ReplicasTurn c.args.pause.now) c.loop-at.at (c.setup.result.now.servers - c.loop-at.at) (c.setup.result.now.servers - (c.loop-at.at + 1)) c.loop-at.busy c.in-Ok.now c.loop-at.world.state c.replicas_turn.new.world (ReplicasOfAll c.args.pause.now c.args.noted c.args.world.now.state) c.loop-at.invariant.same (omega (arith, c.loop-at-test.true)) c.in-Ok.ensures;
}

pub returns-in-Err : goal.returns-in-Err
returns-in-Err c = count_stops (ReplicasTurn c.args.pause.now) c.loop-at.at (c.setup.result.now.servers - c.loop-at.at) (c.setup.result.now.servers - (c.loop-at.at + 1)) c.loop-at.busy c.loop-at.world.state c.replicas_turn.new.world c.in-Err.refusal (ReplicasOfAll c.args.pause.now c.args.noted c.args.world.now.state) c.loop-at.invariant.same (omega (arith, c.loop-at-test.true)) c.in-Err.ensures

pub returns : goal.returns
returns c = (
  c.loop-at.invariant.unspent,
  count_ends (ReplicasTurn c.args.pause.now) c.loop-at.at (c.setup.result.now.servers - c.loop-at.at) c.loop-at.busy c.loop-at.world.state (ReplicasOfAll c.args.pause.now c.args.noted c.args.world.now.state)
      c.loop-at.invariant.same (omega (arith, c.loop-at-test.false)),
)
