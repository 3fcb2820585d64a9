use Rattle.std.proofs.Common.{◌≡◌, ◌+◌}
use Rattle.std.specs.List.{AllByRecursion}
use Rattle.rt_scan.specs.Summaries.{IsSummary, aggregates_in}
use Rattle.rt_scan.proofs.summaries.summaries_of.Given as goal

abbrev pub invariant-loop-place : goal.invariant-loop-place
invariant-loop-place l = record {
  held : AllByRecursion (IsSummary l.fn.file) l.summaries;
  room : aggregates_in l.summaries + l.room ≡ 256;
}
