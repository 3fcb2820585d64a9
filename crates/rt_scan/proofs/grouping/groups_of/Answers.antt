use Rattle.std.proofs.Common.{◌≡◌, ◌<◌, ◌+◌, ◌++◌, ◌∷◌, [], List, Some, sym, ap, subst, ◌∙◌, arith, length, filter, take, get_or, slice_get}
use Rattle.std.proofs.lemmas.List.FromFn.{get_or-map-range_with_len}
use Rattle.rt_postings.specs.DocSet.{IsNextFrom}
use Rattle.rt_model.specs.Aggregate.{key_of}
use Rattle.rt_model.specs.declared.query_parts.ColumnAt.{ColumnAt}
use Rattle.rt_model.specs.Match.{passes}
use Rattle.rt_agg.specs.declared.placed_row.PlacedRow.{PlacedRow}
use Rattle.rt_agg.specs.Grouped.{AddsPage, AwaitsOne, Holds, keys_in_order}
use Rattle.rt_seek.specs.Table.{row_at, rows_by}
use Rattle.rt_scan.specs.Grouping.{HoldsOrAwaits, Leads}
use Rattle.rt_scan.proofs.Filters.{length_rows}
use Rattle.rt_scan.proofs.Leading.{leads_none, leads_still}
use Rattle.rt_scan.proofs.Paged.{none_listed, one_listed, page_held}
use Rattle.rt_scan.proofs.Walked.{next_taken, next_within, all_taken, few_taken}
use Rattle.rt_scan.proofs.grouping.groups_of.Goals as goal

pub loop-row-init : goal.loop-row-init
loop-row-init g c = record {
  listed = subst (λ (page : List PlacedRow). HoldsOrAwaits c.args.query.now (row_at g.C.ScanColumn.values c.args.columns.now) [] page c.in_ok-groups.groups) (sym c.new-page.ensures.items)
      (none_listed c.args.query.now (row_at g.C.ScanColumn.values c.args.columns.now) c.in_ok-groups.groups (c.in_ok-groups.ensures {u = tt}));
  met = leads_none g.C.ScanColumn.values g.C.ScanColumn.value_of c.args.columns.now c.args.query.now c.in_ok-groups.groups c.new-met.result (c.in_ok-groups.ensures {u = tt}) c.new-met.ensures;
  within = omega arith;
}

pub loop-row-preserved : goal.loop-row-preserved
loop-row-preserved g c =
    let columns = c.args.columns.now in
    let query = c.args.query.now in
    let n = length c.args.set.now in
    let rows = rows_by g.C.ScanColumn.values columns n in
    let count : length rows ≡ n = length_rows g.C.ScanColumn.values columns n in
    let from = c.loop-row.from in
    let row = c.in-Some.row in
    let this = row_at g.C.ScanColumn.values columns row in
    let next : IsNextFrom c.args.set.now from row = c.in-Some.ensures.found in
    let inside : row < length rows = next_within (passes query.filter) rows this c.args.set.now from row c.requires.taken next in
    let below : row < n = omega (arith, inside, count) in
    let here : get_or rows row this ≡ this = get_or-map-range_with_len (row_at g.C.ScanColumn.values columns) 0 n row row this below (omega arith) in
    let before = filter (passes query.filter) (take from rows) in
    let front : filter (passes query.filter) (take (row + 1) rows) ≡ before ++ this ∷ [] =
    next_taken (passes query.filter) rows this c.args.set.now from row c.requires.taken next ∙ ap (λ r. before ++ r ∷ []) here in
    let groups = c.place_row.new.groups in
    record {
      listed = subst (λ rs. HoldsOrAwaits query (row_at g.C.ScanColumn.values columns) rs c.turn_page.new.page.items c.turn_page.new.groups) (sym front)
          (c.turn_page.ensures.turns query (before ++ this ∷ [])
          (one_listed query (row_at g.C.ScanColumn.values columns) before c.loop-row.page.items c.loop-row.groups groups c.loop-row.invariant.listed (record { row = row; group = c.in_ok-group.group }) c.push.new.self.items
          (subst (λ (by : List ColumnAt). AwaitsOne (key_of by this) c.loop-row.groups groups) c.as_slice-by.ensures c.in_ok-group.ensures.awaits)
          c.in_ok-group.ensures.keys
          (subst (λ (by : List ColumnAt). slice_get (keys_in_order groups) c.in_ok-group.group ≡ Some (key_of by this)) c.as_slice-by.ensures c.in_ok-group.ensures.index)
          (c.requires.fits row below)
          (omega (arith, few_taken (passes query.filter) rows this from, count, c.requires.few))
          c.in_ok-push.ensures.items));
      met = leads_still g.C.ScanColumn.values g.C.ScanColumn.value_of columns query.groups groups c.turn_page.new.groups c.place_row.new.met
          (subst (λ (by : List ColumnAt). Leads g.C.ScanColumn.value_of columns by groups c.place_row.new.met) c.as_slice-by.ensures c.in_ok-group.ensures.met) c.turn_page.ensures.keys;
      within = omega (arith, below);
    }

pub returns : goal.returns
returns g c =
    let query = c.args.query.now in
    let n = length c.args.set.now in
    let rows = rows_by g.C.ScanColumn.values c.args.columns.now n in
    subst (λ rs. Holds query rs c.add_page.new.self)
    (all_taken (passes query.filter) rows (row_at g.C.ScanColumn.values c.args.columns.now 0) c.args.set.now c.loop-row.from c.requires.taken (omega (arith, c.loop-row.invariant.within, length_rows g.C.ScanColumn.values c.args.columns.now n)) c.in_default.ensures.none)
    (page_held query (row_at g.C.ScanColumn.values c.args.columns.now) _ c.loop-row.page.items c.loop-row.groups c.add_page.new.self c.loop-row.invariant.listed
    (subst (λ (page : List PlacedRow). AddsPage (row_at g.C.ScanColumn.values c.args.columns.now) page c.loop-row.groups c.add_page.new.self) c.deref.ensures.value c.add_page.ensures.adds))
