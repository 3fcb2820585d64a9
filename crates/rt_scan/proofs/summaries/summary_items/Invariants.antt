use Rattle.std.specs.List.{AllByRecursion}
use Rattle.rt_scan.specs.Summaries.{IsFitting}
use Rattle.rt_scan.proofs.summaries.summary_items.Given as goal

abbrev pub invariant-loop-place : goal.invariant-loop-place
invariant-loop-place l = AllByRecursion (IsFitting l.columns) l.items
