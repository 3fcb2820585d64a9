use Rattle.std.proofs.Common.{arith, not}
use Rattle.std.proofs.lemmas.Grind.{common_steps}
use Rattle.std.proofs.lemmas.List.Edits.{map_over_more}
use Rattle.rt_seek.proofs.truths.turn_round.Goals as goal

pub loop-truth-preserved : goal.loop-truth-preserved
loop-truth-preserved c = grind (arith, common_steps, map_over_more not)
