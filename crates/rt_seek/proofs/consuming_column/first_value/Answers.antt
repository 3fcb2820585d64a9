use Rattle.std.proofs.Common.{◌<◌, ℕ, List, length, subst, ap, sym, ◌∙◌, get_or}
use Rattle.rt_schema.specs.declared.value.Value.{Value}
use Rattle.rt_mutable.specs.Arrivals.{arrivals_of}
use Rattle.rt_mutable.specs.Column.{same_value}
use Rattle.rt_seek.specs.Table.{item_at}
use Rattle.rt_seek.proofs.Arrived.{first_led, first_within, id_known}
use Rattle.rt_seek.proofs.consuming_column.first_value.Goals as goal

pub value_with-requires : goal.value_with-requires
value_with-requires c =
    let vs = c.args.column.now.values in
    let within = first_within vs c.args.rows c.args.row c.requires in
    subst (λ (ws : List Value). get_or c.ids.result.now c.args.row 0 < length (arrivals_of same_value ws)) (sym c.values.ensures.values)
    (subst (λ (ids : List ℕ). get_or ids c.args.row 0 < length (arrivals_of same_value vs)) (sym c.ids.ensures) (id_known vs c.args.row within.1))

pub returns : goal.returns
returns c =
    let vs = c.args.column.now.values in
    let within = first_within vs c.args.rows c.args.row c.requires in
    c.value_with.ensures
    ∙ ap (λ ws. item_at (arrivals_of same_value ws) (get_or c.ids.result.now c.args.row 0)) c.values.ensures.values
    ∙ ap (λ ids. item_at (arrivals_of same_value vs) (get_or ids c.args.row 0)) c.ids.ensures
    ∙ first_led vs c.args.rows c.args.row within.0 within.1
