use Rattle.std.proofs.Common.{◌-◌, Ok, arith, subst}
use Rattle.rt_macros.proofs.Turns.{job_ends, job_goes_on, job_runs_out, job_stops}
use Rattle.rt_macros.specs.Doing.{Does}
use Rattle.rt_macros.specs.Exchanging.{MakesJob, MakesStep}
use Rattle.rt_macros.proofs.exchanging.end_job.Goals as goal

pub loop-left-preserved : goal.loop-left-preserved
loop-left-preserved c = record {
  unspent = (c.in-Ok-None.ensures {u = tt}).0;
  same = job_goes_on c.args.controller c.args.job c.loop-left.left (c.loop-left.left - 1) c.loop-left.world.state c.step.new.world (MakesJob c.args.controller c.args.job c.args.world.now.state) c.loop-left.invariant.same (omega (arith, c.loop-left-test.true))
      (subst (λ o. Does (MakesStep c.args.controller c.args.job) c.loop-left.world.state c.step.new.world (Ok o)) c.in-Ok-None.field-0-is (c.in-Ok-None.ensures {u = tt}));
}

pub returns-in-Ok-Some : goal.returns-in-Ok-Some
returns-in-Ok-Some c =
    job_ends c.args.controller c.args.job c.loop-left.left (c.loop-left.left - 1) c.loop-left.world.state c.step.new.world c.in-Ok-Some.replied (MakesJob c.args.controller c.args.job c.args.world.now.state) c.loop-left.invariant.same (omega (arith, c.loop-left-test.true))
    (subst (λ o. Does (MakesStep c.args.controller c.args.job) c.loop-left.world.state c.step.new.world (Ok o)) c.in-Ok-Some.field-0-is (c.in-Ok-Some.ensures {u = tt}))

pub returns-in-Err : goal.returns-in-Err
returns-in-Err c =
    job_stops c.args.controller c.args.job c.loop-left.left (c.loop-left.left - 1) c.loop-left.world.state c.step.new.world c.in-Err.refusal (MakesJob c.args.controller c.args.job c.args.world.now.state) c.loop-left.invariant.same (omega (arith, c.loop-left-test.true)) (c.in-Err.ensures {u = tt})

pub returns : goal.returns
returns c = (
  c.loop-left.invariant.unspent,
  job_runs_out c.args.controller c.args.job c.loop-left.left c.loop-left.world.state (MakesJob c.args.controller c.args.job c.args.world.now.state)
      c.loop-left.invariant.same (omega (arith, c.loop-left-test.false)),
)
