use Rattle.std.proofs.Common.{Some, refl}
use Rattle.rt_nodes.proofs.Upkeeping.{retirement_stepped}
use Rattle.rt_nodes.proofs.upkeep.Upkeep.step_retirement.Goals as goal

pub returns-clause-ok : goal.returns-clause-ok
returns-clause-ok c =
    retirement_stepped c.args.setup.now c.args.partition c.args.now c.args.store.now c.step.new.store c.args.self.now c.end_retirement.new.self c.in_ok-did.did (Some c.in-Some.retirement)
    c.in-Some.retirement c.step.new.self c.in-Some.is refl c.in_ok-did.ensures.step (c.end_retirement.ensures c.step.new.self refl)
