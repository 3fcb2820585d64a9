use Rattle.std.proofs.Common.{arith}
use Rattle.std.proofs.lemmas.Grind.{common_steps}
use Rattle.std.proofs.lemmas.List.Edits.{map_over_more}
use Rattle.rt_model.specs.Completion.{left_out}
use Rattle.rt_fsm.proofs.reporters.exclude.Goals as goal

pub loop-reporter-preserved : goal.loop-reporter-preserved
loop-reporter-preserved c = grind (arith, common_steps, map_over_more (left_out c.args.sender))
