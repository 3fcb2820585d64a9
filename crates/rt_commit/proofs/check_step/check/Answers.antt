-- The call of the step is the get, and what is made of its answer is what the definition makes.
use Rattle.rt_commit.proofs.Checking.{check_makes}
use Rattle.rt_commit.proofs.check_step.check.Goals as goal

pub returns : goal.returns
returns g c =
    λ s a now. check_makes s (g.D.DeepStore.meaning c.args.deep.now) (g.D.DeepStore.meaning c.get-answer.new.self) a c.args.asked now c.args.read
    c.args.end c.args.path _ c.get-answer.result c.after_get.result.0 c.after_get.result.1 c.as_str.ensures c.get-answer.ensures c.after_get.ensures
