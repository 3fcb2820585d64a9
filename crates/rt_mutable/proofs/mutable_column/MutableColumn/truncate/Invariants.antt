use Rattle.std.proofs.Common.{◌≡◌, length}
use Rattle.rt_mutable.specs.Columns.{cut}
use Rattle.rt_mutable.proofs.mutable_column.MutableColumn.truncate.Given as goal

-- the first rows are those of the column as it was
abbrev pub invariant-loop-self : goal.invariant-loop-self
invariant-loop-self l = cut l.rows l.self ≡ cut l.rows l.initial.self

abbrev pub decreases-loop-self : goal.decreases-loop-self
decreases-loop-self l = length l.self.values
