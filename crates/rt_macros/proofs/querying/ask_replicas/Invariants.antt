use Rattle.std.proofs.Common.{◌≡◌, ◌-◌, ◌≤◌, false}
use Rattle.rt_macros.specs.Doing.{EachFrom}
use Rattle.rt_macros.proofs.Doing.{Leads}
use Rattle.rt_macros.specs.Querying.{AsksOne, AsksReplicas}
use Rattle.rt_macros.proofs.querying.ask_replicas.Given as goal

abbrev pub invariant-loop-k : goal.invariant-loop-k
invariant-loop-k l = record {
  unspent : l.world.spent ≡ false;
  within : l.k ≤ l.replication;
  same : Leads (EachFrom (AsksOne l.number l.piece) l.k (l.replication - l.k) l.served l.world.state) (AsksReplicas l.number l.piece l.initial.world.state) l.initial.world.state l.world.state;
}

abbrev pub decreases-loop-k : goal.decreases-loop-k
decreases-loop-k l = l.replication - l.k
