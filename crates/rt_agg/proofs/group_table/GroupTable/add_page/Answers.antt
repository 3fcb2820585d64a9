use Rattle.std.proofs.Common.{◌∙◌, List, ap, map, sym, subst}
use Rattle.std.specs.Map.{keys_of}
use Rattle.rt_agg.specs.GroupTable.{AddsRows, IsTable, Tabled}
use Rattle.rt_agg.specs.ResultHolder.{item_of}
use Rattle.rt_agg.specs.declared.result_holder.ResultHolder.{ResultHolder}
use Rattle.rt_agg.proofs.Entries.{keys_are}
use Rattle.rt_agg.proofs.Holders.{page_items}
use Rattle.rt_agg.proofs.Tabling.{page_table, rows_added, table_of}
use Rattle.rt_agg.proofs.group_table.GroupTable.add_page.Goals as goal

pub invariant_of-self : goal.invariant_of-self
invariant_of-self g c =
    let held = c.self.inside in
    subst (λ (hs : List ResultHolder). IsTable hs held.keys) (sym c.add_page.ensures)
    (page_table held.columns held.holders held.keys c.self.invariant (g.R.ReadTable.row_of c.args.table.now) c.args.page.now)

pub returns-clause-rows : goal.returns-clause-rows
returns-clause-rows g c =
    let held = c.self.inside in
    let row_of = g.R.ReadTable.row_of c.args.table.now in
    subst (λ (s : Tabled). AddsRows row_of c.args.page.now s (table_of held.columns c.add_page.new.self held.keys)) c.self.view_is
    (subst (λ (hs : List ResultHolder). AddsRows row_of c.args.page.now (table_of held.columns held.holders held.keys) (table_of held.columns hs held.keys)) (sym c.add_page.ensures)
    (rows_added held.columns held.keys row_of c.args.page.now held.holders c.self.invariant))

pub returns-clause-keys : goal.returns-clause-keys
returns-clause-keys g c =
    let held = c.self.inside in
    keys_are held.columns c.add_page.new.self 0 held.keys ∙ sym (keys_are held.columns held.holders 0 held.keys)
    ∙ ap (λ (s : Tabled). keys_of s.entries) c.self.view_is

pub returns-clause-same : goal.returns-clause-same
returns-clause-same g c =
    let held = c.self.inside in (
      ap (λ (s : Tabled). s.columns) c.self.view_is,
      ap (map item_of) c.add_page.ensures ∙ page_items (g.R.ReadTable.row_of c.args.table.now) c.args.page.now held.holders ∙ ap (λ (s : Tabled). s.items) c.self.view_is,
    )
