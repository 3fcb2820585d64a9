use Rattle.std.proofs.Common.{arith}
use Rattle.rt_macros.proofs.Doing.{list_ends, list_goes_on, list_stops}
use Rattle.rt_macros.specs.Settling.{Transits, TransitTurn}
use Rattle.rt_macros.proofs.settling.transit_all.Goals as goal

pub loop-segment-preserved : goal.loop-segment-preserved
loop-segment-preserved c = record {
  unspent = c.in-Ok.ensures.0;
  same = list_goes_on (TransitTurn c.args.instance) c.as_slice-segment-items.result.now c.loop-segment.segment-index _ c.loop-segment.busy c.in-Ok.now c.loop-segment.world.state c.attempt.new.world (Transits c.args.instance c.args.noted c.args.world.now.state) c.loop-segment.invariant.same c.loop-segment-test.true c.in-Ok.ensures;
}

pub returns-in-Err : goal.returns-in-Err
returns-in-Err c = list_stops (TransitTurn c.args.instance) c.as_slice-segment-items.result.now c.loop-segment.segment-index _ c.loop-segment.busy c.loop-segment.world.state c.attempt.new.world c.in-Err.refusal (Transits c.args.instance c.args.noted c.args.world.now.state) c.loop-segment.invariant.same c.loop-segment-test.true c.in-Err.ensures

pub returns : goal.returns
returns c = (
  c.loop-segment.invariant.unspent,
  list_ends (TransitTurn c.args.instance) c.as_slice-segment-items.result.now c.loop-segment.segment-index c.loop-segment.busy c.loop-segment.world.state (Transits c.args.instance c.args.noted c.args.world.now.state)
      c.loop-segment.invariant.same (omega (arith, c.loop-segment-test.false)),
)
