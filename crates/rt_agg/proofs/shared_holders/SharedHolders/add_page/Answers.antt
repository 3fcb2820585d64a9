use Rattle.std.proofs.Common.{◌∙◌, map, subst, sym, ap}
use Rattle.rt_agg.specs.ResultHolder.{item_of, with_page_in}
use Rattle.rt_agg.specs.Sharing.{IsShared, spread}
use Rattle.rt_agg.proofs.Holders.{page_items, page_keys}
use Rattle.rt_agg.proofs.Spreading.{spread_map}
use Rattle.rt_agg.proofs.shared_holders.SharedHolders.add_page.Goals as goal

pub invariant_of-self : goal.invariant_of-self
invariant_of-self g c =
    let all = c.self.inside in
    subst (IsShared all.places) (sym (ap (map item_of) c.add_page_to_all.ensures ∙ page_items (g.R.ReadTable.row_of c.args.table.now) c.args.page.now all.held)) c.self.invariant

pub returns : goal.returns
returns g c =
    let all = c.self.inside in
    let row_of = g.R.ReadTable.row_of c.args.table.now in
    let step = with_page_in row_of c.args.page.now in
    ap (spread all.places) c.add_page_to_all.ensures ∙ spread_map step (page_keys row_of _ c.args.page.now) all.places all.held ∙ ap (map step) c.self.view_is
