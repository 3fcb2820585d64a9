-- The step at each stage is that of its own part, whichever store it leaves alone.
use Rattle.rt_commit.proofs.Parts.{steps_from}
use Rattle.rt_commit.proofs.job_steps.step_from.Goals as goal

pub returns-in-Check : goal.returns-in-Check
returns-in-Check g c =
    steps_from (g.S.Store.meaning c.args.store.now) (g.S.Store.meaning c.args.store.now)
    (g.D.DeepStore.meaning c.args.deep.now) (g.D.DeepStore.meaning c.check.new.deep) c.args.assignment.now c.args.asked c.args.now c.args.stage _
    c.check.result.0 c.check.result.1 c.in-Check.is (c.check.ensures (g.S.Store.meaning c.args.store.now) c.args.assignment.now c.args.now)

pub returns-in-Done : goal.returns-in-Done
returns-in-Done g c =
    steps_from (g.S.Store.meaning c.args.store.now) (g.S.Store.meaning c.set_done.new.store)
    (g.D.DeepStore.meaning c.args.deep.now) (g.D.DeepStore.meaning c.args.deep.now) c.args.assignment.now c.args.asked c.args.now c.args.stage _
    c.set_done.result.0 c.set_done.result.1 c.in-Done.is (c.set_done.ensures (g.D.DeepStore.meaning c.args.deep.now) c.args.assignment.now c.args.asked)

pub returns-in-Next : goal.returns-in-Next
returns-in-Next g c =
    steps_from (g.S.Store.meaning c.args.store.now) (g.S.Store.meaning c.create_next.new.store)
    (g.D.DeepStore.meaning c.args.deep.now) (g.D.DeepStore.meaning c.args.deep.now) c.args.assignment.now c.args.asked c.args.now c.args.stage _
    c.create_next.result.0 c.create_next.result.1 c.in-Next.is (c.create_next.ensures (g.D.DeepStore.meaning c.args.deep.now))

pub returns-in-IdealRead : goal.returns-in-IdealRead
returns-in-IdealRead g c =
    steps_from (g.S.Store.meaning c.args.store.now) (g.S.Store.meaning c.read_ideal.new.store)
    (g.D.DeepStore.meaning c.args.deep.now) (g.D.DeepStore.meaning c.args.deep.now) c.args.assignment.now c.args.asked c.args.now c.args.stage _
    c.read_ideal.result.0 c.read_ideal.result.1 c.in-IdealRead.is (c.read_ideal.ensures (g.D.DeepStore.meaning c.args.deep.now) c.args.assignment.now c.args.now)

pub returns-in-IdealSet : goal.returns-in-IdealSet
returns-in-IdealSet g c =
    steps_from (g.S.Store.meaning c.args.store.now) (g.S.Store.meaning c.set_ideal.new.store)
    (g.D.DeepStore.meaning c.args.deep.now) (g.D.DeepStore.meaning c.args.deep.now) c.args.assignment.now c.args.asked c.args.now c.args.stage _
    c.set_ideal.result.0 c.set_ideal.result.1 c.in-IdealSet.is (c.set_ideal.ensures (g.D.DeepStore.meaning c.args.deep.now) c.args.now)
