use Rattle.std.proofs.Common.{Some, refl}
use Rattle.rt_nodes.proofs.Upkeeping.{repair_stepped}
use Rattle.rt_nodes.proofs.upkeep.Upkeep.step_repair.Goals as goal

pub returns-clause-ok : goal.returns-clause-ok
returns-clause-ok c =
    repair_stepped c.args.setup.now c.args.partition c.args.now c.args.store.now c.step.new.store c.args.self.now c.end_repair.new.self c.in_ok-did.did (Some c.in-Some.repair)
    c.in-Some.repair c.step.new.self c.in-Some.is refl c.in_ok-did.ensures.step (c.end_repair.ensures c.step.new.self refl)
