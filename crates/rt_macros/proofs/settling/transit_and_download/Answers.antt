use Rattle.rt_macros.proofs.Doing.{does_then}
use Rattle.rt_macros.specs.Settling.{Downloads, Transits}
use Rattle.rt_macros.proofs.settling.transit_and_download.Goals as goal

pub returns : goal.returns
returns c =
    does_then (Transits c.args.instance c.args.busy) (Downloads c.args.instance) c.args.world.now.state c.transit_all.new.world c.download_all.new.world
    c.in_ok-busy.busy c.download_all.result c.in_ok-busy.ensures c.download_all.ensures
