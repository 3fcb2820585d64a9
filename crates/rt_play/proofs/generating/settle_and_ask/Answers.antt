use Rattle.std.proofs.Common.{false, string_bytes}
use Rattle.rt_macros.proofs.Doing.{does_then}
use Rattle.rt_macros.specs.Doing.{text_told}
use Rattle.rt_macros.specs.Settling.{Settles}
use Rattle.rt_macros.specs.declared.settling.TheConstants.{MOST_ROUNDS}
use Rattle.rt_play.specs.Generating.{Asks}
use Rattle.rt_play.proofs.generating.settle_and_ask.Goals as goal

pub returns : goal.returns
returns c =
    does_then (Settles false MOST_ROUNDS) (λ quiet. Asks) c.args.world.now.state c.settle_unpaused.new.world c.ask.new.world c.in_ok-_quiet._quiet (text_told (string_bytes c.ask.new.answer) c.ask.result)
    c.in_ok-_quiet.ensures c.ask.ensures
