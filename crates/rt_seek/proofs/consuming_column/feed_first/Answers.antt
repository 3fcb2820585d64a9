use Rattle.std.proofs.Common.{◌<◌, ℕ, List, All, length, take, min, subst, ap, sym, ◌∙◌}
use Rattle.rt_schema.specs.declared.value.Value.{Value}
use Rattle.rt_agg.specs.Paging.{fed}
use Rattle.rt_mutable.specs.Arrivals.{arrivals_of}
use Rattle.rt_mutable.specs.Column.{same_value}
use Rattle.rt_seek.specs.Scalars.{led, scalar_on}
use Rattle.rt_seek.proofs.Arrived.{first_values_led, some_known}
use Rattle.rt_seek.proofs.consuming_column.feed_first.Goals as goal

pub feed_arrived-requires : goal.feed_arrived-requires
feed_arrived-requires g c =
    let vs = c.args.column.now.values in
    subst (λ (ws : List Value). All (λ id. id < length (arrivals_of same_value ws)) (take c.min-count.result c.ids-ids.result.now)) (sym c.values.ensures.values)
    (subst (λ (ids : List ℕ). All (λ id. id < length (arrivals_of same_value vs)) (take c.min-count.result ids)) (sym c.ids-ids.ensures) (some_known vs c.min-count.result))

pub returns : goal.returns
returns g c =
    let vs = c.args.column.now.values in
    c.feed_arrived.ensures
    ∙ ap (λ (us : List Value). fed g.T.TakeScalar.takes (scalar_on us) c.args.page.now c.args.taker.now)
    (ap (λ ws. led (arrivals_of same_value ws) (take c.min-count.result c.ids-ids.result.now)) c.values.ensures.values
    ∙ ap (λ n. led (arrivals_of same_value vs) (take n c.ids-ids.result.now)) c.min-count.ensures
    ∙ ap (λ ids. led (arrivals_of same_value vs) (take (min (length ids) c.args.rows) ids)) c.ids-ids.ensures
    ∙ first_values_led vs c.args.rows)
