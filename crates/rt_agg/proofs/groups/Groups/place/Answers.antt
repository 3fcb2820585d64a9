use Rattle.std.proofs.Common.{ap, ◌∙◌, subst}
use Rattle.rt_agg.specs.Grouped.{AwaitsOne}
use Rattle.rt_agg.proofs.Apart.{absent}
use Rattle.rt_agg.proofs.Awaiting.{awaits_one_there, shown}
use Rattle.rt_agg.proofs.groups.Groups.place.Goals as goal

pub start-requires : goal.start-requires
start-requires c = absent c.index.new.self.entries c.args.key c.in-None.ensures.none

pub returns-in-Some-clause-awaits : goal.returns-in-Some-clause-awaits
returns-in-Some-clause-awaits c =
    let held = c.self.inside in
    let of = shown held.items held.order held.limit in
    let now = of c.index.new.self in
    subst (λ s. AwaitsOne c.args.key s now) (ap of c.index.ensures ∙ c.self.view_is)
    (awaits_one_there c.args.key now c.in-Some.index c.in-Some.ensures.some)
