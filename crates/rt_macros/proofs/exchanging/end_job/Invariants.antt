use Rattle.std.proofs.Common.{◌≡◌, false}
use Rattle.rt_macros.proofs.Doing.{Leads}
use Rattle.rt_macros.specs.Exchanging.{EndsJob, MakesJob}
use Rattle.rt_macros.proofs.exchanging.end_job.Given as goal

abbrev pub invariant-loop-left : goal.invariant-loop-left
invariant-loop-left l = record {
  unspent : l.world.spent ≡ false;
  same : Leads (EndsJob l.controller l.job l.left l.world.state) (MakesJob l.controller l.job l.initial.world.state) l.initial.world.state l.world.state;
}

abbrev pub decreases-loop-left : goal.decreases-loop-left
decreases-loop-left l = l.left
