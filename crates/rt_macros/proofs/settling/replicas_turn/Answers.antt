use Rattle.std.proofs.Common.{subst}
use Rattle.rt_macros.specs.Doing.{Choose, DoesFrom, Gives}
use Rattle.rt_macros.specs.Settling.{ReplicasHeld}
use Rattle.rt_macros.proofs.settling.replicas_turn.Goals as goal

pub returns : goal.returns
returns c =
    let w = c.args.world.now.state in
    subst (λ up. DoesFrom (Choose up (ReplicasHeld c.args.pause.now c.args.instance c.args.noted w) (Gives c.args.noted w)) w c.held_turn.new.world c.held_turn.result)
    (c.if-not-up.ensures {u = tt}) c.held_turn.ensures
