use Rattle.std.proofs.Common.{◌+◌, ◌-◌, arith}
use Rattle.rt_macros.proofs.Doing.{count_ends, count_goes_on, count_stops}
use Rattle.rt_play.specs.Generating.{ProducesRow, ProducesRows}
use Rattle.rt_play.proofs.generated_rows.produce_rows.Goals as goal

pub loop-at-preserved : goal.loop-at-preserved
loop-at-preserved c = record {
  unspent = c.in-Ok.ensures.0;
  within = omega (arith, c.loop-at-test.true);
  same = count_goes_on (ProducesRow c.args.asked.partitions) c.loop-at.at (c.args.asked.rows - c.loop-at.at) (c.args.asked.rows - (c.loop-at.at + 1)) c.loop-at.x c.in-Ok.next c.loop-at.world.state c.produce_row.new.world (ProducesRows c.args.asked c.args.world.now.state) c.loop-at.invariant.same (omega (arith, c.loop-at-test.true)) c.in-Ok.ensures;
}

pub returns-in-Err : goal.returns-in-Err
returns-in-Err c = count_stops (ProducesRow c.args.asked.partitions) c.loop-at.at (c.args.asked.rows - c.loop-at.at) (c.args.asked.rows - (c.loop-at.at + 1)) c.loop-at.x c.loop-at.world.state c.produce_row.new.world c.in-Err.refusal (ProducesRows c.args.asked c.args.world.now.state) c.loop-at.invariant.same (omega (arith, c.loop-at-test.true)) c.in-Err.ensures

pub returns : goal.returns
returns c = (
  c.loop-at.invariant.unspent,
  count_ends (ProducesRow c.args.asked.partitions) c.loop-at.at (c.args.asked.rows - c.loop-at.at) c.loop-at.x c.loop-at.world.state
      (ProducesRows c.args.asked c.args.world.now.state) c.loop-at.invariant.same (omega (arith, c.loop-at-test.false)),
)
