use Rattle.std.proofs.Common.{◌≡◌, ◌∙◌, ◌++◌, List, ap, refl, subst, sym, slice_get, Some}
use Rattle.std.specs.List.{AllByRecursion, IsDistinct}
use Rattle.rt_model.specs.declared.query_parts.ColumnAt.{ColumnAt}
use Rattle.rt_model.specs.declared.query_parts.Item.{Item}
use Rattle.rt_agg.specs.Accumulators.{ordering_items}
use Rattle.rt_agg.specs.Grouped.{Grouped, same_key}
use Rattle.rt_agg.specs.Picking.{AreTold, IsAmong, all_items, kept}
use Rattle.rt_agg.proofs.Holding.{slots}
use Rattle.rt_agg.proofs.groups.Groups.pick_keys.Goals as goal
use Rattle.rt_agg.proofs.groups.Groups.pick_keys.Goals.{In_ok-table}

-- the items of the table are the query's, and those of the others' table are theirs
own_items : (c : In_ok-table) → c.in_ok-table.table.items ≡ slots c.args.query.now
own_items c =
    c.in_ok-table.ensures.items
    ∙ (λ j. (c.as_slice.ensures ∙ c.in_ok-items.ensures) j ++ ordering_items ((c.as_slice-2.ensures ∙ c.in_ok-order.ensures) j))

their_items : (c : In_ok-table) → c.others.inside.table.items ≡ all_items c.args.others.now
their_items c = c.others.invariant ∙ ap (λ (g : Grouped). all_items g) c.others.view_is

pub returns-clause-of : goal.returns-clause-of
returns-clause-of c = record {
  columns = c.in_ok-table.ensures.columns;
  items = c.in_ok-items.ensures;
  order = c.in_ok-order.ensures;
  limit = refl;
  apart = subst (IsDistinct same_key) (sym c.in_ok-table.ensures.keys) c.requires.apart;
}

pub returns-clause-among : goal.returns-clause-among
returns-clause-among c =
    subst (λ (is : List Item). AllByRecursion (IsAmong is) (slots c.args.query.now)) (their_items c)
    (subst (AllByRecursion (IsAmong c.others.inside.table.items)) (own_items c) c.in_ok-table.ensures.among)

pub returns-clause-told : goal.returns-clause-told
returns-clause-told c i key wanted k known at there =
    let table = c.in_ok-table.table in
    let theirs = c.others.inside.table in
    let marked = subst (λ (g : Grouped). slice_get (kept c.args.marks.now g.groups) i ≡ Some (k, known)) (sym c.others.view_is) there in
    subst (λ (cs : List ColumnAt). AreTold cs key (all_items c.args.others.now) known (slots c.args.query.now) wanted) c.in_ok-table.ensures.columns
    (subst (λ (is : List Item). AreTold table.columns key is known (slots c.args.query.now) wanted) (their_items c)
    (subst (λ (is : List Item). AreTold table.columns key theirs.items known is wanted) (own_items c)
    (c.in_ok-table.ensures.picks i key wanted k known at marked)))
