use Rattle.std.proofs.Common.{◌≡◌, ◌<◌, ℕ, List, All, length, map, take, min, subst, ap, sym, ◌∙◌}
use Rattle.std.proofs.lemmas.List.{length-map}
use Rattle.rt_mutable.specs.Arrivals.{arrivals_of}
use Rattle.rt_mutable.specs.Column.{same_value}
use Rattle.rt_seek.specs.ColumnTest.{passes_test}
use Rattle.rt_seek.specs.RowSets.{truth_at}
use Rattle.rt_seek.proofs.Sets.{ok_then}
use Rattle.rt_seek.proofs.Arrived.{some_known, first_pass}
use Rattle.rt_seek.proofs.consuming_column.rows_by_ids.Goals as goal
use Rattle.rt_seek.proofs.consuming_column.rows_by_ids.Goals.{After-deref}

truths : (c : After-deref) → c.deref.result.now ≡ map (passes_test c.args.test.now) (arrivals_of same_value c.args.column.now.values)
truths c = c.deref.ensures.value ∙ c.in_ok-truths.ensures {u = tt} ∙ ap (λ vs. map (passes_test c.args.test.now) (arrivals_of same_value vs)) c.values.ensures.values

pub rows_with-requires-clause-known : goal.rows_with-requires-clause-known
rows_with-requires-clause-known c =
    let vs = c.args.column.now.values in
    let at = (goal.at.rows_with-requires-clause-known c).After-deref in
    let count : length c.deref.result.now ≡ length (arrivals_of same_value vs) = ap length (truths at) ∙ length-map (arrivals_of same_value vs) (passes_test c.args.test.now) in
    subst (λ (n : ℕ). All (λ id. id < n) (take c.min-count.result c.ids-ids.result.now)) (sym count)
    (subst (λ (ids : List ℕ). All (λ id. id < length (arrivals_of same_value vs)) (take c.min-count.result ids)) (sym c.ids-ids.ensures) (some_known vs c.min-count.result))

pub returns : goal.returns
returns c =
    let vs = c.args.column.now.values in
    let at = (goal.at.returns c).After-deref in
    ok_then c.rows_with.result _ _ c.rows_with.ensures (λ set e.
    e ∙ ap (λ n. map (truth_at c.deref.result.now) (take n c.ids-ids.result.now)) c.min-count.ensures
    ∙ ap (λ ids. map (truth_at c.deref.result.now) (take (min (length ids) c.args.rows) ids)) c.ids-ids.ensures
    ∙ first_pass vs (passes_test c.args.test.now) c.deref.result.now c.args.rows (truths at))
