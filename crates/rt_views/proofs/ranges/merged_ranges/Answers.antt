use Rattle.std.proofs.Common.{arith}
use Rattle.rt_views.proofs.Merging.{merged_end}
use Rattle.rt_views.proofs.ranges.merged_ranges.Goals as goal

pub returns : goal.returns
returns c =
    merged_end c.args.found.now c.loop-piece.piece-index c.loop-piece.ranges (omega (arith, c.loop-piece-test.false)) c.loop-piece.invariant
