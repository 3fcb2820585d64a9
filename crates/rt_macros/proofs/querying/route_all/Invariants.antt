use Rattle.std.proofs.Common.{◌≡◌, ◌-◌, ◌≤◌, false}
use Rattle.rt_macros.specs.Doing.{EachFrom}
use Rattle.rt_macros.proofs.Doing.{Leads}
use Rattle.rt_macros.specs.Querying.{RoutesAll, RoutesOne}
use Rattle.rt_macros.proofs.querying.route_all.Given as goal

abbrev pub invariant-loop-at : goal.invariant-loop-at
invariant-loop-at l = record {
  unspent : l.world.spent ≡ false;
  within : l.at ≤ l.partitions;
  same : Leads (EachFrom (RoutesOne l.number) l.at (l.partitions - l.at) tt l.world.state) (RoutesAll l.number l.initial.world.state) l.initial.world.state l.world.state;
}

abbrev pub decreases-loop-at : goal.decreases-loop-at
decreases-loop-at l = l.partitions - l.at
