use Rattle.std.proofs.Common.{◌≡◌, ◌-◌, ◌≤◌, false}
use Rattle.rt_macros.specs.Doing.{EachFrom}
use Rattle.rt_macros.proofs.Doing.{Leads}
use Rattle.rt_macros.specs.Settling.{ReplicasOfAll, ReplicasTurn}
use Rattle.rt_macros.proofs.settling.consume_all.Given as goal

abbrev pub invariant-loop-at : goal.invariant-loop-at
invariant-loop-at l = record {
  unspent : l.world.spent ≡ false;
  within : l.at ≤ l.servers;
  same : Leads (EachFrom (ReplicasTurn l.pause) l.at (l.servers - l.at) l.busy l.world.state) (ReplicasOfAll l.pause l.noted l.initial.world.state) l.initial.world.state l.world.state;
}

abbrev pub decreases-loop-at : goal.decreases-loop-at
decreases-loop-at l = l.servers - l.at
