use Rattle.std.proofs.Common.{◌+◌, ◌-◌, arith}
use Rattle.rt_desk.specs.Forcing.{nodes_from}
use Rattle.rt_desk.proofs.PresentNodes.{nodes_more}
use Rattle.rt_desk.proofs.forcing.present_nodes.Goals as goal

pub loop-at-preserved : goal.loop-at-preserved
loop-at-preserved c =
    let w = c.args.world.now.state in
    let at = c.loop-at.at in
    let count = c.setup.result.now.partitions in
    record {
      within = omega (arith, c.loop-at-test.true);
      so = nodes_more w at (count - at) (count - (at + 1)) (nodes_from w 0 count) c.loop-at.nodes c.push.new.self _ c.loop-at.invariant.so (omega (arith, c.loop-at-test.true)) c.in_ok-push.ensures.ok (c.in_ok-nodes.ensures {u = tt});
    }
