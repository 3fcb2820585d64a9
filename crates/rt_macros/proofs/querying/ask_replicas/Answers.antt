use Rattle.std.proofs.Common.{◌+◌, ◌-◌, arith}
use Rattle.rt_macros.proofs.Doing.{count_ends, count_goes_on, count_stops}
use Rattle.rt_macros.specs.Querying.{AsksOne, AsksReplicas}
use Rattle.rt_macros.proofs.querying.ask_replicas.Goals as goal

pub loop-k-preserved : goal.loop-k-preserved
loop-k-preserved c = record {
  unspent = c.in-Ok.ensures.0;
  within = omega (arith, c.loop-k-test.true);
  same = count_goes_on (AsksOne c.args.number c.args.piece) c.loop-k.k (c.setup.result.now.table.replication - c.loop-k.k) (c.setup.result.now.table.replication - (c.loop-k.k + 1)) c.loop-k.served c.in-Ok.now c.loop-k.world.state c.ask_one.new.world (AsksReplicas c.args.number c.args.piece c.args.world.now.state) c.loop-k.invariant.same (omega (arith, c.loop-k-test.true)) c.in-Ok.ensures;
}

pub returns-in-Err : goal.returns-in-Err
returns-in-Err c = count_stops (AsksOne c.args.number c.args.piece) c.loop-k.k (c.setup.result.now.table.replication - c.loop-k.k) (c.setup.result.now.table.replication - (c.loop-k.k + 1)) c.loop-k.served c.loop-k.world.state c.ask_one.new.world c.in-Err.refusal (AsksReplicas c.args.number c.args.piece c.args.world.now.state) c.loop-k.invariant.same (omega (arith, c.loop-k-test.true)) c.in-Err.ensures

pub returns : goal.returns
returns c = (
  c.loop-k.invariant.unspent,
  count_ends (AsksOne c.args.number c.args.piece) c.loop-k.k (c.setup.result.now.table.replication - c.loop-k.k) c.loop-k.served c.loop-k.world.state
      (AsksReplicas c.args.number c.args.piece c.args.world.now.state) c.loop-k.invariant.same (omega (arith, c.loop-k-test.false)),
)
