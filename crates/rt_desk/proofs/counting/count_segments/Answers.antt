use Rattle.std.proofs.Common.{arith}
use Rattle.rt_desk.proofs.SegmentCounts.{counted, one_less, one_more}
use Rattle.rt_desk.proofs.counting.count_segments.Goals.{then-not-has_segment, else-not-has_segment}
use Rattle.rt_desk.proofs.counting.count_segments.Goals as goal

pub loop-at-preserved : goal.loop-at-preserved
loop-at-preserved c =
    let so = c.loop-at.invariant in
    let all = counted c.args.replicas.now c.loop-at.at _ c.has_segment.result c.loop-at.count (omega (arith, c.loop-at-test.true)) c.has_segment.ensures so.count in
    elim c.if-not-has_segment.branch [
      | then-not-has_segment w ↦
          record { within = omega (arith, c.loop-at-test.true); few = omega (arith, so.few, w.count-is); count = one_more c.has_segment.result c.loop-at.count c.if-not-has_segment.count _ all w.if-not-has_segment.true w.count-is }
      | else-not-has_segment w ↦
          record { within = omega (arith, c.loop-at-test.true); few = omega (arith, so.few, w.count-is); count = one_less c.has_segment.result c.loop-at.count c.if-not-has_segment.count _ all w.if-not-has_segment.false w.count-is }
    ]
