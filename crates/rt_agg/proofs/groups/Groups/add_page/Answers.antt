use Rattle.std.proofs.Common.{◌≡◌, ◌∙◌, None, ap, slice_get, subst, sym}
use Rattle.std.specs.List.{AllByRecursion}
use Rattle.rt_agg.specs.Grouped.{Awaits, Grouped, IsPlaced}
use Rattle.rt_agg.specs.Paging.{rows_on}
use Rattle.rt_agg.proofs.Awaiting.{page_added, shown}
use Rattle.rt_agg.proofs.Tabling.{none_added}
use Rattle.rt_agg.proofs.groups.Groups.add_page.Goals as goal

pub returns-clause-adds : goal.returns-clause-adds
returns-clause-adds g c query rows awaits placed =
    let held = c.self.inside in
    let row_of = g.R.ReadTable.row_of c.args.table.now in
    page_added held.items held.order held.limit row_of query c.args.page.now held.table c.add_page.new.self rows c.add_page.ensures.rows
    (subst (Awaits query rows (rows_on row_of c.args.page.now)) (sym c.self.view_is) awaits)
    (subst (λ s. AllByRecursion (IsPlaced query.groups row_of s) c.args.page.now) (sym c.self.view_is) placed)

pub returns-clause-past : goal.returns-clause-past
returns-clause-past g c past =
    let held = c.self.inside in
    let row_of = g.R.ReadTable.row_of c.args.table.now in
    let none : AllByRecursion (λ placed. slice_get held.table.entries placed.group ≡ None) c.args.page.now =
    subst (λ (s : Grouped). AllByRecursion (λ placed. slice_get s.groups placed.group ≡ None) c.args.page.now) (sym c.self.view_is) past in
    ap (shown held.items held.order held.limit) (none_added row_of c.args.page.now held.table c.add_page.new.self c.add_page.ensures.rows none) ∙ c.self.view_is
