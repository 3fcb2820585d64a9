use Rattle.std.proofs.Common.{sym, ◌∙◌}
use Rattle.rt_server.proofs.Kept.{left_is, transited_is}
use Rattle.rt_server.proofs.Past.{may_learn_in}
use Rattle.rt_server.proofs.server.Server.transit.Goals as goal

pub invariant_of-self : goal.invariant_of-self
invariant_of-self g c =
    left_is c.self.inside.setup c.self.inside.table c.leave.new.self c.args.partition c.args.sequence c.leave.result _ c.leave.ensures c.self.invariant

pub transit-requires-clause-past : goal.transit-requires-clause-past
transit-requires-clause-past g c =
    may_learn_in _ _ _ _ c.args.partition c.args.sequence c.read.result c.in_ok-seen.seen c.self.view_is c.requires.history c.requires.start
    c.read.ensures (sym c.metadata_in.ensures ∙ c.in_ok-seen.was {u = tt})

pub invariant_of-self-2 : goal.invariant_of-self-2
invariant_of-self-2 g c =
    transited_is c.self.inside.setup c.self.inside.table c.transit.new.self c.args.partition c.args.sequence c.args.now c.in-Some.mode c.in_ok-seen.seen
    c.in_ok-state.state c.in_ok-state.ensures.ok
    (may_learn_in _ _ _ _ c.args.partition c.args.sequence c.read.result c.in_ok-seen.seen c.self.view_is c.requires.history c.requires.start
    c.read.ensures (sym c.metadata_in.ensures ∙ c.in_ok-seen.was {u = tt}))
    c.self.invariant
