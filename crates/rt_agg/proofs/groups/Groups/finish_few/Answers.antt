use Rattle.std.proofs.Common.{map, take, ap, ◌∙◌, subst}
use Rattle.rt_model.specs.Aggregate.{ordered}
use Rattle.rt_agg.specs.Grouped.{Grouped, Finishes}
use Rattle.rt_agg.specs.Ranking.{ranked_at, result_at}
use Rattle.rt_agg.proofs.First.{rows_of_places}
use Rattle.rt_agg.proofs.Results.{finishes_first}
use Rattle.rt_agg.proofs.groups.Groups.finish_few.Goals as goal

pub returns : goal.returns
returns c =
    let g : Grouped = record { columns = c.self.inside.table.columns; items = c.self.inside.items; order = c.self.inside.order; limit = c.self.inside.limit; groups = c.self.inside.table.entries } in
    let ranked = ranked_at c.len-width.result c.self.inside.table.entries in
    subst (λ s. Finishes s c.in_ok-rows.rows) c.self.view_is
    (finishes_first g c.in_ok-rows.rows
    (c.in_ok-rows.ensures ∙ ap (map (λ p. (ranked p).row)) c.deref.ensures.value ∙ rows_of_places ranked c.in_ok-places.places.items
    ∙ ap (map (λ r. r.row)) c.in_ok-places.ensures.first
    ∙ (λ j. map (λ r. r.row) (take c.self.inside.limit (ordered (c.as_slice-order.ensures j) (map (result_at (c.len-width.ensures j)) c.self.inside.table.entries))))))
