use Rattle.std.proofs.Common.{◌≡◌, map, take, drop, ◌++◌}
use Rattle.rt_model.specs.Completion.{left_out}
use Rattle.rt_fsm.proofs.reporters.exclude.Given as goal

abbrev pub invariant-loop-reporter : goal.invariant-loop-reporter
invariant-loop-reporter l = l.reporters ≡ map (left_out l.sender) (take l.reporter-index l.initial.reporters) ++ drop l.reporter-index l.initial.reporters
