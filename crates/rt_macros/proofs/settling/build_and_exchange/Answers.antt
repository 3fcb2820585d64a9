use Rattle.std.proofs.Common.{sym, ◌∙◌, ap}
use Rattle.rt_macros.proofs.Next.{is_next, rest_asks, rest_consumes, rest_waits, this}
use Rattle.rt_macros.proofs.settling.build_and_exchange.Goals as goal

pub returns-in-Some-Consume : goal.returns-in-Some-Consume
returns-in-Some-Consume c =
    rest_consumes c.args.instance c.args.partition c.args.sequence c.args.busy c.args.world.now c.requires
    (sym c.in_ok-next.ensures ∙ ap is_next (c.in-Some-Consume.is ∙ ap this c.in-Some-Consume.field-0-is))

pub returns-in-Some-Ask : goal.returns-in-Some-Ask
returns-in-Some-Ask c =
    rest_asks c.args.instance c.args.partition c.args.sequence c.args.busy c.args.world.now c.requires c.exchange_turn.new.world c.exchange_turn.result
    (sym c.in_ok-next.ensures ∙ ap is_next (c.in-Some-Ask.is ∙ ap this c.in-Some-Ask.field-0-is)) c.exchange_turn.ensures

pub returns-in-None : goal.returns-in-None
returns-in-None c =
    rest_waits c.args.instance c.args.partition c.args.sequence c.args.busy c.args.world.now c.requires (sym c.in_ok-next.ensures ∙ ap is_next c.in-None.is)
