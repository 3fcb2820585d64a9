use Rattle.std.proofs.Common.{◌<◌, All, sym, ap, subst, ◌∙◌, map, ℕ}
use Rattle.rt_segment.specs.Column.{values_in}
use Rattle.rt_seek.specs.ColumnTest.{passes_test}
use Rattle.rt_seek.specs.RowSets.{truth_at}
use Rattle.rt_seek.proofs.Sets.{ok_then}
use Rattle.rt_seek.proofs.Held.{by_truths, count_is}
use Rattle.rt_seek.proofs.file_column.held_rows.Goals as goal

pub returns-then-is_indexed : goal.returns-then-is_indexed
returns-then-is_indexed c =
    let column = c.args.column.now in
    ok_then c.rows_by_postings.result _ _ c.rows_by_postings.ensures (λ set e.
    e ∙ by_truths (passes_test c.args.test.now) (values_in column.dictionary) column.ids c.deref.result.now
    (c.deref.ensures.value ∙ c.in_ok-truths.ensures {u = tt} ∙ ap (λ d. map (passes_test c.args.test.now) (values_in d)) c.dictionary.ensures)
    (subst (λ (n : ℕ). All (λ id. id < n) column.ids) (sym (count_is column.dictionary)) c.ids-ids.ensures.column.known))

pub returns : goal.returns
returns c =
    let column = c.args.column.now in
    ok_then c.rows_with.result _ _ c.rows_with.ensures (λ set e.
    e ∙ ap (map (truth_at c.deref-else-is_indexed.result.now)) c.ids-ids.ensures.ids
    ∙ by_truths (passes_test c.args.test.now) (values_in column.dictionary) column.ids c.deref-else-is_indexed.result.now
    (c.deref-else-is_indexed.ensures.value ∙ c.in_ok-truths.ensures {u = tt} ∙ ap (λ d. map (passes_test c.args.test.now) (values_in d)) c.dictionary.ensures)
    (subst (λ (n : ℕ). All (λ id. id < n) column.ids) (sym (count_is column.dictionary)) c.ids-ids.ensures.column.known))
