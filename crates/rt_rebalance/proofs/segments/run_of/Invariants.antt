use Rattle.std.proofs.Common.{◌≡◌, ◌+◌, drop}
use Rattle.rt_rebalance.specs.Runs.{run_of}
use Rattle.rt_rebalance.proofs.segments.run_of.Given as goal

abbrev pub invariant-loop-place : goal.invariant-loop-place
invariant-loop-place l = run_of l.entry l.entries ≡ l.place + run_of l.entry (drop l.place l.entries)
