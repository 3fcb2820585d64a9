use Rattle.std.proofs.Common.{◌≡◌, ◌-◌, ◌≤◌, false}
use Rattle.rt_macros.specs.Doing.{EachFrom}
use Rattle.rt_macros.proofs.Doing.{Leads}
use Rattle.rt_macros.specs.Filling.{FillsOne}
use Rattle.rt_macros.proofs.filling.fill_more.Given as goal

abbrev pub invariant-loop-done : goal.invariant-loop-done
invariant-loop-done l = record {
  unspent : l.world.spent ≡ false;
  within : l.done ≤ l.count;
  same : Leads (EachFrom (FillsOne l.partition) l.done (l.count - l.done) tt l.world.state) (EachFrom (FillsOne l.partition) 0 l.count tt l.initial.world.state) l.initial.world.state l.world.state;
}

abbrev pub decreases-loop-done : goal.decreases-loop-done
decreases-loop-done l = l.count - l.done
