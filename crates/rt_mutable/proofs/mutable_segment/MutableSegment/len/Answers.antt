use Rattle.std.proofs.Common.{length, ap, arith}
use Rattle.rt_mutable.proofs.Rows.{length_rows}
use Rattle.rt_mutable.proofs.mutable_segment.MutableSegment.len.Goals as goal

pub overflow_cast-result : goal.overflow_cast-result
overflow_cast-result c =
    omega (arith, c.len.ensures, length_rows 0 c.self.inside.columns c.self.inside.offsets.items, c.self.invariant.right.limited)

pub returns-clause-rows : goal.returns-clause-rows
returns-clause-rows c =
    omega (arith, c.len.ensures, length_rows 0 c.self.inside.columns c.self.inside.offsets.items, ap (λ s. length s.rows) c.self.view_is)
