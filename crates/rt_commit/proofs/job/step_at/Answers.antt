-- The job at the place makes its step, and all others stay.
use Rattle.rt_commit.proofs.Parts.{slot_steps}
use Rattle.rt_commit.proofs.job.step_at.Goals as goal

pub returns : goal.returns
returns g c =
    slot_steps (g.S.Store.meaning c.args.store.now) (g.S.Store.meaning c.step.new.store) (g.D.DeepStore.meaning c.args.deep.now)
    (g.D.DeepStore.meaning c.step.new.deep) c.args.assignment.now c.args.now c.args.place c.args.jobs.now.items
    c.index_mut.result.now c.step.new.self c.step.result c.index_mut.ensures.value c.step.ensures
