use Rattle.std.proofs.Common.{subst}
use Rattle.rt_macros.specs.Doing.{Does}
use Rattle.rt_macros.specs.Settling.{Settles}
use Rattle.rt_macros.specs.declared.settling.TheConstants.{MOST_ROUNDS}
use Rattle.rt_play.proofs.generating.settle_unpaused.Goals as goal

pub returns : goal.returns
returns c = subst (λ paused. Does (Settles paused MOST_ROUNDS) c.args.world.now.state c.settle.new.world c.settle.result) c.make-pause.ensures c.settle.ensures
