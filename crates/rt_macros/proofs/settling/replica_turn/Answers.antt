use Rattle.std.proofs.Common.{sym, ◌∙◌, ap}
use Rattle.rt_macros.proofs.Next.{is_next, this, turn_asks, turn_builds, turn_waits}
use Rattle.rt_macros.proofs.settling.replica_turn.Goals as goal

pub returns-in-Some-Build : goal.returns-in-Some-Build
returns-in-Some-Build c =
    turn_builds c.args.instance c.args.partition c.args.sequence c.args.busy c.args.world.now c.requires c.args.pause.now c.build_first.new.world
    c.build_first.result (sym c.in_ok-next.ensures ∙ ap is_next (c.in-Some-Build.is ∙ ap this c.in-Some-Build.field-0-is)) c.build_first.ensures

pub returns-in-Some-Ask : goal.returns-in-Some-Ask
returns-in-Some-Ask c =
    turn_asks c.args.instance c.args.partition c.args.sequence c.args.busy c.args.world.now c.requires c.args.pause.now c.exchange_turn.new.world
    c.exchange_turn.result (sym c.in_ok-next.ensures ∙ ap is_next (c.in-Some-Ask.is ∙ ap this c.in-Some-Ask.field-0-is)) c.exchange_turn.ensures

pub returns-in-None : goal.returns-in-None
returns-in-None c =
    turn_waits c.args.instance c.args.partition c.args.sequence c.args.busy c.args.world.now c.requires c.args.pause.now
    (sym c.in_ok-next.ensures ∙ ap is_next c.in-None.is)
