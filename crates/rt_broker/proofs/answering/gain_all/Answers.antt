use Rattle.std.proofs.Common.{arith}
use Rattle.rt_broker.proofs.Gaining.{gain_next, gain_end}
use Rattle.rt_broker.proofs.answering.gain_all.Goals as goal

pub loop-route-preserved : goal.loop-route-preserved
loop-route-preserved c =
    gain_next c.args.routes.now c.loop-route.route-index c.route-item.result c.args.groups.now c.loop-route.groups c.gain_route.new.groups
    c.loop-route-test.true c.route-item.is c.in_ok-gain_route.ensures c.loop-route.invariant

pub returns : goal.returns
returns c =
    gain_end c.args.routes.now c.loop-route.route-index c.args.groups.now c.loop-route.groups (omega (arith, c.loop-route-test.false))
    c.loop-route.invariant
