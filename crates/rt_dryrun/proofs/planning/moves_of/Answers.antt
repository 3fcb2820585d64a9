use Rattle.std.proofs.Common.{◌∙◌, subst}
use Rattle.rt_rebalance.specs.Replicas.{AreReplicas}
use Rattle.rt_dryrun.proofs.Moves.{as_many}
use Rattle.rt_dryrun.proofs.planning.moves_of.Goals as goal

pub returns : goal.returns
returns c =
    c.count_new.ensures
    ∙ as_many c.in_ok-had.had c.args.current.now.entries c.args.target.now
    (subst (AreReplicas c.in_ok-had.had) c.as_slice.ensures (c.in_ok-had.ensures {u = tt}))
