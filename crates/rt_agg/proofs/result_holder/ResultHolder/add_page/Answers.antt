use Rattle.std.proofs.Common.{◌∙◌, ap, sym}
use Rattle.rt_agg.specs.ResultHolder.{with_page_in}
use Rattle.rt_agg.specs.declared.result_holder.ResultHolder.TheVariants.{Counts, Sums, Least, Greatest}
use Rattle.rt_agg.proofs.Holders.{page_counts, page_greatest, page_keys, page_least, page_sums}
use Rattle.rt_agg.proofs.result_holder.ResultHolder.add_page.Goals as goal

pub returns-in-Key : goal.returns-in-Key
returns-in-Key g c =
    let row_of = g.R.ReadTable.row_of c.args.table.now in
    c.in-Key.is ∙ sym (page_keys row_of c.in-Key.field-0 c.args.page.now) ∙ ap (with_page_in row_of c.args.page.now) (sym c.in-Key.is)

pub returns-in-Counts : goal.returns-in-Counts
returns-in-Counts g c =
    let row_of = g.R.ReadTable.row_of c.args.table.now in
    ap Counts c.add_ones.ensures ∙ sym (page_counts row_of c.args.page.now c.in-Counts.counts) ∙ ap (with_page_in row_of c.args.page.now) (sym c.in-Counts.is)

pub returns-in-Sums : goal.returns-in-Sums
returns-in-Sums g c =
    let row_of = g.R.ReadTable.row_of c.args.table.now in
    ap (Sums c.in-Sums.column) c.feed.ensures ∙ sym (page_sums row_of c.in-Sums.column c.args.page.now c.in-Sums.totals) ∙ ap (with_page_in row_of c.args.page.now) (sym c.in-Sums.is)

pub returns-in-Least : goal.returns-in-Least
returns-in-Least g c =
    let row_of = g.R.ReadTable.row_of c.args.table.now in
    ap (Least c.in-Least.column) c.feed-in-Least.ensures ∙ sym (page_least row_of c.in-Least.column c.args.page.now c.in-Least.scalars) ∙ ap (with_page_in row_of c.args.page.now) (sym c.in-Least.is)

pub returns-in-Greatest : goal.returns-in-Greatest
returns-in-Greatest g c =
    let row_of = g.R.ReadTable.row_of c.args.table.now in
    ap (Greatest c.in-Greatest.column) c.feed-in-Greatest.ensures ∙ sym (page_greatest row_of c.in-Greatest.column c.args.page.now c.in-Greatest.scalars) ∙ ap (with_page_in row_of c.args.page.now) (sym c.in-Greatest.is)
