use Rattle.std.proofs.Common.{◌∙◌, ap, map, sym, take}
use Rattle.rt_agg.specs.ResultHolder.{cell_held}
use Rattle.rt_agg.proofs.Showing.{ranked_by}
use Rattle.rt_agg.proofs.group_table.GroupTable.row.Goals as goal

pub returns : goal.returns
returns c =
    let held = c.self.inside in
    let key = c.group-group.result.key.now in
    let given = ranked_by held.columns c.args.width c.args.group key held.holders held.keys c.args.self.now c.self.view_is c.group-group.ensures.key in
    let cells = c.in_ok-cells.ensures ∙ (λ j. map (cell_held (c.as_slice-columns.ensures j) key (c.group-group.ensures.number j)) (take c.args.width held.holders)) in
    (λ j. record { cells = cells j }) ∙ sym (ap (λ r. r.row) given)
