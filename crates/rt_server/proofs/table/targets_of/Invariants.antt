use Rattle.std.proofs.Common.{◌≡◌, ◌≤◌, length, drop}
use Rattle.rt_server.specs.Calls.{targets_of}
use Rattle.rt_server.proofs.table.targets_of.Given as goal

abbrev pub decreases-loop-left : goal.decreases-loop-left
decreases-loop-left l = l.left

abbrev pub invariant-loop-left : goal.invariant-loop-left
invariant-loop-left l = (l.left ≤ length l.entries) × (l.modes.entries ≡ targets_of l.instance (drop l.left l.entries))
