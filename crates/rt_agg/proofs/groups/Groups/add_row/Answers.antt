use Rattle.std.proofs.Common.{[], ap, arith, ◌∙◌, Some}
use Rattle.rt_model.specs.Aggregate.{key_of}
use Rattle.rt_agg.specs.Grouped.{Grouped}
use Rattle.rt_agg.proofs.Awaiting.{awaits_none}
use Rattle.rt_agg.proofs.groups.Groups.add_row.Goals as goal

pub returns-clause-adds : goal.returns-clause-adds
returns-clause-adds c query rows holds fits few =
    let row = c.args.row.now in
    let is = c.in_ok-key.ensures {u = tt} ∙ ap (λ cs. key_of cs row) (c.columns.ensures ∙ ap (λ (g : Grouped). g.columns) c.self.view_is ∙ holds.columns) in
    c.add_page.ensures.adds query rows
    (c.in_ok-group.ensures.awaits query rows [] row (awaits_none query rows _ holds) is fits (omega (arith, few)))
    (c.in_ok-group.ensures.index ∙ ap Some is, tt)
