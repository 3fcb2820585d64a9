use Rattle.std.proofs.Common.{◌≡◌, ◌+◌, ◌++◌, length}
use Rattle.rt_server.specs.Due.{due_merged, left}
use Rattle.rt_server.proofs.lists.due_merged.Given as goal

abbrev pub invariant-loop-target : goal.invariant-loop-target
invariant-loop-target l = l.due ++ due_merged (left l.target l.targets) (left l.entry l.others) ≡ due_merged l.fn.modes.entries l.fn.entries.entries

abbrev pub decreases-loop-target : goal.decreases-loop-target
decreases-loop-target l = length (left l.target l.targets) + length (left l.entry l.others)
