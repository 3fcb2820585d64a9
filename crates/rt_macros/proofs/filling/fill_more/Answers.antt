use Rattle.std.proofs.Common.{◌+◌, ◌-◌, arith}
use Rattle.rt_macros.proofs.Doing.{count_ends, count_goes_on, count_stops}
use Rattle.rt_macros.specs.Doing.{EachFrom}
use Rattle.rt_macros.specs.Filling.{FillsOne}
use Rattle.rt_macros.proofs.filling.fill_more.Goals as goal

pub loop-done-preserved : goal.loop-done-preserved
loop-done-preserved c = record {
  unspent = c.in-Ok.ensures.0;
  within = omega (arith, c.loop-done-test.true);
  same = count_goes_on (FillsOne c.args.partition) c.loop-done.done (c.args.count - c.loop-done.done) (c.args.count - (c.loop-done.done + 1)) tt tt c.loop-done.world.state c.fill_one.new.world (EachFrom (FillsOne c.args.partition) 0 c.args.count tt c.args.world.now.state) c.loop-done.invariant.same (omega (arith, c.loop-done-test.true)) c.in-Ok.ensures;
}

pub returns-in-Err : goal.returns-in-Err
returns-in-Err c = count_stops (FillsOne c.args.partition) c.loop-done.done (c.args.count - c.loop-done.done) (c.args.count - (c.loop-done.done + 1)) tt c.loop-done.world.state c.fill_one.new.world c.in-Err.refusal (EachFrom (FillsOne c.args.partition) 0 c.args.count tt c.args.world.now.state) c.loop-done.invariant.same (omega (arith, c.loop-done-test.true)) c.in-Err.ensures

pub returns : goal.returns
returns c = (
  c.loop-done.invariant.unspent,
  count_ends (FillsOne c.args.partition) c.loop-done.done (c.args.count - c.loop-done.done) tt c.loop-done.world.state
      (EachFrom (FillsOne c.args.partition) 0 c.args.count tt c.args.world.now.state) c.loop-done.invariant.same (omega (arith, c.loop-done-test.false)),
)
