use Rattle.std.proofs.Common.{◌≡◌, false, drop}
use Rattle.rt_desk.specs.Forcing.{ForcesAll, ForcesOne}
use Rattle.rt_desk.proofs.forcing.force_all.Given as goal
use Rattle.rt_macros.specs.Doing.{Each}
use Rattle.rt_macros.proofs.Doing.{Leads}

abbrev pub invariant-loop-replica : goal.invariant-loop-replica
invariant-loop-replica l = record {
  unspent : l.world.spent ≡ false;
  same : Leads (Each ForcesOne (drop l.replica-index l.replica-items) l.forced l.world.state) (ForcesAll l.initial.world.state) l.initial.world.state l.world.state;
}
