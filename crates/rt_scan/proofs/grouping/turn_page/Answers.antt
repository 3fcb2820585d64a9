use Rattle.std.proofs.Common.{List, subst, sym}
use Rattle.rt_agg.specs.declared.placed_row.PlacedRow.{PlacedRow}
use Rattle.rt_agg.specs.Grouped.{AddsPage}
use Rattle.rt_seek.specs.Table.{row_at}
use Rattle.rt_scan.specs.Grouping.{HoldsOrAwaits}
use Rattle.rt_scan.proofs.Paged.{page_turned}
use Rattle.rt_scan.proofs.grouping.turn_page.Goals as goal

pub returns-then-len-ge-PAGE_ROWS-clause-turns : goal.returns-then-len-ge-PAGE_ROWS-clause-turns
returns-then-len-ge-PAGE_ROWS-clause-turns g c query rows listed =
    let row_of = row_at g.C.ScanColumn.values c.args.columns.now in
    subst (λ (page : List PlacedRow). HoldsOrAwaits query row_of rows page c.add_page.new.self) (sym c.clear.ensures.items)
    (page_turned query row_of rows c.args.page.now.items c.args.groups.now c.add_page.new.self listed
    (subst (λ (page : List PlacedRow). AddsPage row_of page c.args.groups.now c.add_page.new.self) c.deref.ensures.value c.add_page.ensures.adds))
