use Rattle.std.proofs.Common.{◌≡◌, false}
use Rattle.rt_macros.proofs.Doing.{Leads}
use Rattle.rt_macros.specs.Settling.{SettlesIn}
use Rattle.rt_macros.proofs.settling.settle_rounds.Given as goal

abbrev pub invariant-loop-left : goal.invariant-loop-left
invariant-loop-left l = record {
  unspent : l.world.spent ≡ false;
  same : Leads (SettlesIn l.pause l.left l.world.state) (SettlesIn l.pause l.fn.rounds l.initial.world.state) l.initial.world.state l.world.state;
}

abbrev pub decreases-loop-left : goal.decreases-loop-left
decreases-loop-left l = l.left
