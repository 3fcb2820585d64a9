use Rattle.std.proofs.Common.{◌≡◌, ◌∙◌, List, Some, ap, length, sym, subst, slice_get}
use Rattle.std.specs.Prelude.{IfOk}
use Rattle.std.proofs.lemmas.Bool.{eq-eqb, eqb-true, true≢false}
use Rattle.std.proofs.lemmas.Result.{on_ok_weaker}
use Rattle.rt_model.specs.Aggregate.{key_of}
use Rattle.rt_model.specs.declared.query_parts.ColumnAt.{ColumnAt}
use Rattle.rt_agg.specs.Grouped.{AwaitsOne, keys_in_order}
use Rattle.rt_agg.proofs.Awaiting.{awaits_one_there}
use Rattle.rt_seek.specs.Table.{row_at}
use Rattle.rt_scan.specs.Grouping.{Leads}
use Rattle.rt_scan.proofs.Leading.{two_or_more, whole_key}
use Rattle.rt_scan.proofs.grouping.place_row.Goals as goal

pub place_by_id-requires-clause-met : goal.place_by_id-requires-clause-met
place_by_id-requires-clause-met g c =
    subst (λ (by : List ColumnAt). Leads g.C.ScanColumn.value_of c.args.columns.now by c.args.groups.now c.args.met.now) (c.in-Some.ensures.some) c.requires.met

pub returns-in-Some-clause-awaits : goal.returns-in-Some-clause-awaits
returns-in-Some-clause-awaits g c =
    let row = row_at g.C.ScanColumn.values c.args.columns.now c.args.row in
    on_ok_weaker c.place_by_id.result (λ awaits.
    subst (λ (by : List ColumnAt). AwaitsOne (key_of by row) c.args.groups.now c.place_by_id.new.groups) (sym (c.in-Some.ensures.some)) awaits)
    c.place_by_id.ensures.awaits

pub returns-in-Some-clause-index : goal.returns-in-Some-clause-index
returns-in-Some-clause-index g c =
    let row = row_at g.C.ScanColumn.values c.args.columns.now c.args.row in
    subst (λ (by : List ColumnAt). IfOk c.place_by_id.result (λ i. slice_get (keys_in_order c.place_by_id.new.groups) i ≡ Some (key_of by row))) (sym (c.in-Some.ensures.some)) c.place_by_id.ensures.index

pub returns-in-Some-clause-met : goal.returns-in-Some-clause-met
returns-in-Some-clause-met g c =
    on_ok_weaker c.place_by_id.result (λ met.
    subst (λ (by : List ColumnAt). Leads g.C.ScanColumn.value_of c.args.columns.now by c.place_by_id.new.groups c.place_by_id.new.met) (sym (c.in-Some.ensures.some)) met)
    c.place_by_id.ensures.met

pub place_by_ids-requires-clause-several : goal.place_by_ids-requires-clause-several
place_by_ids-requires-clause-several g c = two_or_more (length c.args.by.now) (λ none. true≢false (sym (eq-eqb (length c.args.by.now) 0 none) ∙ sym c.is_empty.ensures ∙ c.if-is_empty.false)) c.in-None.ensures.none

pub returns-then-is_empty-clause-index : goal.returns-then-is_empty-clause-index
returns-then-is_empty-clause-index g c =
    let by = c.args.by.now in
    let none : length by ≡ 0 = eqb-true (length by) 0 (sym c.is_empty.ensures ∙ c.if-is_empty.true) in
    c.requires.met.whole none ∙ ap Some (whole_key g.C.ScanColumn.values g.C.ScanColumn.value_of c.args.columns.now by c.args.row none)

pub returns-then-is_empty-clause-awaits : goal.returns-then-is_empty-clause-awaits
returns-then-is_empty-clause-awaits g c =
    let by = c.args.by.now in
    let none : length by ≡ 0 = eqb-true (length by) 0 (sym c.is_empty.ensures ∙ c.if-is_empty.true) in
    awaits_one_there (key_of by (row_at g.C.ScanColumn.values c.args.columns.now c.args.row)) c.args.groups.now 0
    (c.requires.met.whole none ∙ ap Some (whole_key g.C.ScanColumn.values g.C.ScanColumn.value_of c.args.columns.now by c.args.row none))
