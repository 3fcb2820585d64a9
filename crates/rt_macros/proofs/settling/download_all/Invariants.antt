use Rattle.std.proofs.Common.{◌≡◌, false, drop}
use Rattle.rt_macros.specs.Doing.{Each}
use Rattle.rt_macros.proofs.Doing.{Leads}
use Rattle.rt_macros.specs.Settling.{Downloads, DownloadTurn}
use Rattle.rt_macros.proofs.settling.download_all.Given as goal

abbrev pub invariant-loop-segment : goal.invariant-loop-segment
invariant-loop-segment l = record {
  unspent : l.world.spent ≡ false;
  same : Leads (Each (DownloadTurn l.instance) (drop l.segment-index l.segment-items) l.busy l.world.state) (Downloads l.instance l.noted l.initial.world.state) l.initial.world.state l.world.state;
}
