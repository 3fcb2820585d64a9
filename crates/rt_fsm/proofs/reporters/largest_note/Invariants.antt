use Rattle.std.proofs.Common.{◌≡◌, drop, max}
use Rattle.rt_model.specs.Completion.{largest_note}
use Rattle.rt_fsm.proofs.reporters.largest_note.Given as goal

abbrev pub invariant-loop-reporter : goal.invariant-loop-reporter
invariant-loop-reporter l = max l.largest.0 (largest_note (drop l.reporter-index l.reporters)) ≡ largest_note l.reporters
