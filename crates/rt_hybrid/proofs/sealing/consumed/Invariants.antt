use Rattle.std.proofs.Common.{◌≡◌, take}
use Rattle.rt_hybrid.specs.Sealing.{consuming_of}
use Rattle.rt_hybrid.proofs.sealing.consumed.Given as goal

abbrev pub invariant-loop-row : goal.invariant-loop-row
invariant-loop-row l = l.segment ≡ consuming_of l.schema.columns (take l.row-index l.rows)
