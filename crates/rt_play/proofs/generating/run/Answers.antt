use Rattle.std.specs.Prelude.{string_bytes}
use Rattle.rt_macros.proofs.Doing.{does_then}
use Rattle.rt_macros.specs.Doing.{text_told}
use Rattle.rt_play.specs.Generating.{ProducesRows, SettlesAndAsks}
use Rattle.rt_play.proofs.generating.run.Goals as goal

pub returns : goal.returns
returns c =
    does_then (ProducesRows c.args.asked) (λ x. SettlesAndAsks) c.args.world.now.state c.produce_rows.new.world c.settle_and_ask.new.world
    c.in_ok-_last._last (text_told (string_bytes c.settle_and_ask.new.answer) c.settle_and_ask.result) c.in_ok-_last.ensures c.settle_and_ask.ensures
