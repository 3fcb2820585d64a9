use Rattle.std.proofs.Common.{◌≡◌, ◌-◌, ◌≤◌, false}
use Rattle.rt_macros.specs.Doing.{EachFrom}
use Rattle.rt_macros.proofs.Doing.{Leads}
use Rattle.rt_play.specs.Generating.{ProducesRow, ProducesRows}
use Rattle.rt_play.proofs.generated_rows.produce_rows.Given as goal

abbrev pub invariant-loop-at : goal.invariant-loop-at
invariant-loop-at l = record {
  unspent : l.world.spent ≡ false;
  within : l.at ≤ l.asked.rows;
  same : Leads (EachFrom (ProducesRow l.asked.partitions) l.at (l.asked.rows - l.at) l.x l.world.state) (ProducesRows l.asked l.initial.world.state) l.initial.world.state l.world.state;
}

abbrev pub decreases-loop-at : goal.decreases-loop-at
decreases-loop-at l = l.asked.rows - l.at
