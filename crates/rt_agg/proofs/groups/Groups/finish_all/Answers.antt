use Rattle.std.proofs.Common.{◌∙◌, ◌<◌, All, ℕ, ap, length, map, subst, sym, take}
use Rattle.std.specs.List.{range_with_len}
use Rattle.std.specs.List.Sorted.{IsSortedBy}
use Rattle.std.proofs.lemmas.List.Elements.{All-take}
use Rattle.std.proofs.lemmas.List.Sorted.{All-permutation}
use Rattle.std.specs.Ordering.{is_lt}
use Rattle.rt_model.specs.Aggregate.{result_cmp}
use Rattle.rt_agg.specs.Grouped.{Grouped, Finishes}
use Rattle.rt_agg.specs.Ranking.{ranked_at, ranked_within, result_at}
use Rattle.rt_agg.proofs.Results.{finishes_from, places_within, ranks_all, rows_within}
use Rattle.rt_agg.proofs.groups.Groups.finish_all.Goals as goal

pub rows_at-requires : goal.rows_at-requires
rows_at-requires c =
    let entries = c.self.inside.table.entries in
    let inside = λ (p : ℕ). p < length entries in
    let first = c.in_ok-places.places.items in
    let sorted = c.sort.new.places.items in
    let is = c.in_ok-places.ensures ∙ ap (λ n. map (λ p. p) (range_with_len 0 n)) c.len.ensures.len in
    subst (All inside) (sym (c.deref.ensures.value ∙ c.truncate.ensures.items))
    (All-take inside c.self.inside.limit sorted
    (All-permutation inside first sorted c.sort.ensures.permutation (subst (All inside) (sym is) (places_within c.len-width.result entries))))

pub returns : goal.returns
returns c =
    let entries = c.self.inside.table.entries in
    let g : Grouped = record { columns = c.self.inside.table.columns; items = c.self.inside.items; order = c.self.inside.order; limit = c.self.inside.limit; groups = entries } in
    let width = c.len-width.result in
    let ranked = ranked_within width entries in
    let inside = λ (p : ℕ). p < length entries in
    let first = c.in_ok-places.places.items in
    let sorted = c.sort.new.places.items in
    let is = c.in_ok-places.ensures ∙ ap (λ n. map (λ p. p) (range_with_len 0 n)) c.len.ensures.len in
    let kept : All inside (take c.self.inside.limit sorted) =
    All-take inside c.self.inside.limit sorted
    (All-permutation inside first sorted c.sort.ensures.permutation (subst (All inside) (sym is) (places_within width entries))) in
    subst (λ s. Finishes s c.in_ok-rows.rows) c.self.view_is
    (finishes_from ranked g first sorted c.in_ok-rows.rows
    (ap (map ranked) is ∙ ranks_all width entries ∙ ap (λ n. map (result_at n) entries) c.len-width.ensures)
    c.sort.ensures.permutation
    (subst (λ o. IsSortedBy (λ a b. is_lt (result_cmp o (ranked a) (ranked b))) sorted) c.as_slice.ensures c.sort.ensures.sorted)
    (c.in_ok-rows.ensures ∙ ap (map (λ p. (ranked_at width entries p).row)) (c.deref.ensures.value ∙ c.truncate.ensures.items)
    ∙ rows_within width entries (take c.self.inside.limit sorted) kept))
