use Rattle.std.proofs.Common.{subst}
use Rattle.rt_events.specs.declared.event.Event.TheVariants.{See}
use Rattle.rt_macros.proofs.Doing.{does_then}
use Rattle.rt_macros.specs.Doing.{Choose, DoesFrom, Gives, Passed, Then}
use Rattle.rt_macros.specs.Settling.{TransitsAndDownloads}
use Rattle.rt_macros.proofs.settling.server_turn.Goals as goal

pub returns : goal.returns
returns c =
    let w = c.args.world.now.state in
    let next = Then (Passed (See c.args.instance)) (λ done. TransitsAndDownloads c.args.instance c.args.busy) in
    subst (λ up. DoesFrom (Choose up (next w) (Gives c.args.busy w)) w c.transit_and_download.new.world c.transit_and_download.result)
    (c.if-not-up.ensures {u = tt})
    (does_then (Passed (See c.args.instance)) (λ done. TransitsAndDownloads c.args.instance c.args.busy) w c.happen.new.world
    c.transit_and_download.new.world tt c.transit_and_download.result c.in_ok-happen.ensures c.transit_and_download.ensures)
