use Rattle.std.proofs.Common.{None}
use Rattle.rt_nodes.proofs.Upkeeping.{retirement_stepped}
use Rattle.rt_nodes.proofs.upkeep.Upkeep.begin_retirement.Goals as goal

pub returns-clause-ok : goal.returns-clause-ok
returns-clause-ok c =
    retirement_stepped c.args.setup.now c.args.partition c.args.now c.args.store.now c.step.new.store c.args.self.now c.end_retirement.new.self c.in_ok-did.did None
    c.in_ok-retirement.retirement c.step.new.self c.requires.none c.in_ok-retirement.ensures c.in_ok-did.ensures.step (c.end_retirement.ensures c.step.new.self c.replace.ensures.after)
