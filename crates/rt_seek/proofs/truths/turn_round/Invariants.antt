use Rattle.std.proofs.Common.{◌≡◌, ◌++◌, map, not, take, drop}
use Rattle.rt_seek.proofs.truths.turn_round.Given as goal

abbrev pub invariant-loop-truth : goal.invariant-loop-truth
invariant-loop-truth l = l.truths ≡ map not (take l.truth-index l.initial.truths) ++ drop l.truth-index l.initial.truths
