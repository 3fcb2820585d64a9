use Rattle.std.proofs.Common.{◌+◌, ◌-◌, arith}
use Rattle.rt_macros.proofs.Doing.{count_ends, count_goes_on, count_stops}
use Rattle.rt_macros.specs.Querying.{AsksAll, AsksPartition}
use Rattle.rt_macros.proofs.querying.ask_all.Goals as goal

pub loop-at-preserved : goal.loop-at-preserved
loop-at-preserved c = record {
  unspent = c.in-Ok.ensures.0;
  within = omega (arith, c.loop-at-test.true);
  same = count_goes_on (AsksPartition c.args.number) c.loop-at.at (c.setup.result.now.partitions - c.loop-at.at) (c.setup.result.now.partitions - (c.loop-at.at + 1)) tt tt c.loop-at.world.state c.ask_partition.new.world (AsksAll c.args.number c.args.world.now.state) c.loop-at.invariant.same (omega (arith, c.loop-at-test.true)) c.in-Ok.ensures;
}

pub returns-in-Err : goal.returns-in-Err
returns-in-Err c = count_stops (AsksPartition c.args.number) c.loop-at.at (c.setup.result.now.partitions - c.loop-at.at) (c.setup.result.now.partitions - (c.loop-at.at + 1)) tt c.loop-at.world.state c.ask_partition.new.world c.in-Err.refusal (AsksAll c.args.number c.args.world.now.state) c.loop-at.invariant.same (omega (arith, c.loop-at-test.true)) c.in-Err.ensures

pub returns : goal.returns
returns c = (
  c.loop-at.invariant.unspent,
  count_ends (AsksPartition c.args.number) c.loop-at.at (c.setup.result.now.partitions - c.loop-at.at) tt c.loop-at.world.state (AsksAll c.args.number c.args.world.now.state)
      c.loop-at.invariant.same (omega (arith, c.loop-at-test.false)),
)
