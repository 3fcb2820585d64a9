use Rattle.std.proofs.Common.{refl, ◌∙◌}
use Rattle.rt_agg.specs.Grouped.{first_known}
use Rattle.rt_agg.proofs.Holding.{holds_none}
use Rattle.rt_agg.proofs.groups.Groups.make.Goals as goal

pub returns : goal.returns
returns c =
    let items = c.as_slice.ensures ∙ c.in_ok-items.ensures in
    let order = c.as_slice-2.ensures ∙ c.in_ok-order.ensures in
    holds_none c.args.query.now _ c.in_ok-table.ensures.columns c.in_ok-items.ensures c.in_ok-order.ensures refl
    (λ key. c.in_ok-table.ensures.known key ∙ (λ j. first_known c.args.query.now.groups (items j) (order j) key))
    c.in_ok-table.ensures.apart
