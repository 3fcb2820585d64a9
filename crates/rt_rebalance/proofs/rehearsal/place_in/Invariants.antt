use Rattle.std.proofs.Common.{◌≡◌, ◌++◌, take, drop}
use Rattle.rt_rebalance.specs.Rehearsed.{without}
use Rattle.rt_rebalance.proofs.rehearsal.place_in.Given as goal

abbrev pub invariant-loop-place : goal.invariant-loop-place
invariant-loop-place l =
    without l.partition l.sequence l.instance l.entries ≡ take l.place l.entries ++ without l.partition l.sequence l.instance (drop l.place l.entries)
