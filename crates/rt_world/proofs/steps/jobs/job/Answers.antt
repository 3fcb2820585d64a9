use Rattle.std.proofs.Common.{length, sym, ap, ◌∙◌}
use Rattle.rt_state.proofs.Leading.{job_delivered}
use Rattle.rt_state.specs.Room.{with_set}
use Rattle.rt_world.proofs.steps.jobs.job.Goals as goal

pub returns : goal.returns
returns c =
    let w = c.args.state.now in
    let cost = c.in_ok-cost.cost in
    let notes =
    c.note_set.ensures ∙ ap (λ writes. with_set c.step_job.new.state.counts cost (length writes) (length c.history.result.now)) c.history-before.ensures
    ∙ ap (λ writes. with_set c.step_job.new.state.counts cost (length w.store.writes) (length writes)) c.history.ensures in (
      cost,
      sym c.job_due.ensures ∙ c.in_ok-cost.was,
      job_delivered w c.step_job.new.state c.job_outcome.new.state c.args.controller c.args.job cost c.in_ok-step.step c.in_ok-outcome.outcome _ _
          c.in_ok-step.ensures.stepped notes (c.in_ok-outcome.ensures {u = tt}) c.spend.ensures,
    )
