use Rattle.std.proofs.Common.{Bool, nat_lt, arith}
use Rattle.std.proofs.lemmas.Bool.{lt-ltb, le-ltb}
use Rattle.std.proofs.lemmas.List.Sums.{prefix_len-drop_yes, prefix_len-drop_no}
use Rattle.rt_macros.proofs.resting.known.Goals as goal
use Rattle.rt_macros.specs.Settling.{SegmentAt}

pub returns-then-segment-partitions : goal.returns-then-segment-partitions
returns-then-segment-partitions c =
    let known : SegmentAt → Bool = λ s. nat_lt s.0.0 c.args.partitions in
    let stops = prefix_len-drop_no known c.args.segments.now c.loop-at.at _ c.loop-at-test.true (le-ltb _ _ c.if-segment-partitions.true) in
    omega (arith, stops, c.loop-at.invariant)

pub loop-at-preserved : goal.loop-at-preserved
loop-at-preserved c =
    let known : SegmentAt → Bool = λ s. nat_lt s.0.0 c.args.partitions in
    let more = prefix_len-drop_yes known c.args.segments.now c.loop-at.at _ c.loop-at-test.true (lt-ltb _ _ c.if-segment-partitions.false) in
    omega (arith, more, c.loop-at.invariant)
