use Rattle.std.proofs.Common.{◌≡◌, map, take, drop, ◌++◌}
use Rattle.rt_model.specs.Completion.{noted}
use Rattle.rt_fsm.proofs.reporters.note.Given as goal

abbrev pub invariant-loop-reporter : goal.invariant-loop-reporter
invariant-loop-reporter l = l.reporters ≡ map (noted l.sender l.offset) (take l.reporter-index l.initial.reporters) ++ drop l.reporter-index l.initial.reporters
