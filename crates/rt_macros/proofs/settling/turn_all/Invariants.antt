use Rattle.std.proofs.Common.{◌≡◌, ◌≤◌, ◌-◌, false, drop, length}
use Rattle.rt_macros.specs.Doing.{Each}
use Rattle.rt_macros.proofs.Doing.{Leads}
use Rattle.rt_macros.specs.Settling.{ReplicaTurn}
use Rattle.rt_macros.proofs.settling.turn_all.Given as goal

abbrev pub invariant-loop-at : goal.invariant-loop-at
invariant-loop-at l = record {
  unspent : l.world.spent ≡ false;
  within : l.at ≤ length l.segments;
  same : Leads (Each (ReplicaTurn l.pause l.instance) (drop l.at l.segments) l.busy l.world.state) (Each (ReplicaTurn l.pause l.instance) l.segments l.fn.noted l.initial.world.state) l.initial.world.state l.world.state;
}

abbrev pub decreases-loop-at : goal.decreases-loop-at
decreases-loop-at l = length l.segments - l.at
