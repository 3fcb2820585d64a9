use Rattle.std.proofs.Common.{arith}
use Rattle.rt_desk.specs.Forcing.{ForcesAll, ForcesOne}
use Rattle.rt_desk.proofs.forcing.force_all.Goals as goal
use Rattle.rt_macros.proofs.Doing.{list_ends, list_goes_on, list_stops}

pub loop-replica-preserved : goal.loop-replica-preserved
loop-replica-preserved c = record {
  unspent = c.in-Ok.ensures.0;
  same = list_goes_on ForcesOne c.as_slice-replica-items.result.now c.loop-replica.replica-index _ c.loop-replica.forced c.in-Ok.now c.loop-replica.world.state c.force_one.new.world (ForcesAll c.args.world.now.state) c.loop-replica.invariant.same c.loop-replica-test.true c.in-Ok.ensures;
}

pub returns-in-Err : goal.returns-in-Err
returns-in-Err c = list_stops ForcesOne c.as_slice-replica-items.result.now c.loop-replica.replica-index _ c.loop-replica.forced c.loop-replica.world.state c.force_one.new.world c.in-Err.refusal (ForcesAll c.args.world.now.state) c.loop-replica.invariant.same c.loop-replica-test.true c.in-Err.ensures

pub returns : goal.returns
returns c = (
  c.loop-replica.invariant.unspent,
  list_ends ForcesOne c.as_slice-replica-items.result.now c.loop-replica.replica-index c.loop-replica.forced c.loop-replica.world.state
      (ForcesAll c.args.world.now.state) c.loop-replica.invariant.same (omega (arith, c.loop-replica-test.false)),
)
