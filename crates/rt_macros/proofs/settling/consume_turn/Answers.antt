use Rattle.std.proofs.Common.{sym, ◌∙◌}
use Rattle.rt_macros.proofs.Next.{consuming}
use Rattle.rt_macros.proofs.settling.consume_turn.Goals as goal

pub returns : goal.returns
returns c =
    consuming c.args.instance c.args.partition c.args.sequence c.args.busy c.args.world.now c.requires.unspent c.args.pause.now c.attempt.new.world
    c.attempt.result c.requires.next (sym c.waits.ensures ∙ c.if-waits.false) c.attempt.ensures
