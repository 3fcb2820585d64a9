use Rattle.std.proofs.Common.{All, take}
use Rattle.rt_segment.specs.Column.{AreShort}
use Rattle.rt_build.specs.Sealing.{filled_of, AreColumnsSealed}
use Rattle.rt_build.proofs.sealed_columns.seal_columns.Given as goal

abbrev pub invariant-loop-place : goal.invariant-loop-place
invariant-loop-place l = record {
  sealed : AreColumnsSealed l.rows l.indexed (take l.place (filled_of l.segment)) l.columns.items;
  short : All (λ column. AreShort column.dictionary) l.columns.items;
}
