use Rattle.std.proofs.Common.{◌∙◌, sym, subst}
use Rattle.std.specs.declared.ops.Bound.TheVariants.{Excluded, Unbounded}
use Rattle.rt_server.specs.Resting.{IsWalk}
use Rattle.rt_server.proofs.Walks.{came_to, goes_on, range_walks}
use Rattle.rt_server.proofs.table.Table.next_rests.Goals as goal

pub returns-in-Some-clause-rests : goal.returns-in-Some-clause-rests
returns-in-Some-clause-rests c =
    c.rests.ensures
    ∙ came_to c.args.self.now c.args.walk.now c.next.new.self c.in-Some.found.now c.in-Some.entry.now c.args.segment (sym c.eq.ensures ∙ c.if-eq.true) c.in-Some.ensures.steps c.requires

pub returns-in-Some-clause-walk : goal.returns-in-Some-clause-walk
returns-in-Some-clause-walk c = goes_on c.args.self.now c.args.walk.now c.next.new.self c.next.result c.next.ensures.steps c.requires

pub returns-in_default-clause-walk : goal.returns-in_default-clause-walk
returns-in_default-clause-walk c =
    subst (λ t. IsWalk t c.range.result) c.self.view_is
    (range_walks c.self.inside.modes.entries c.self.inside.entries (Excluded c.args.segment) Unbounded c.range.result (c.range.ensures.in_range tt))
