use Rattle.std.proofs.Common.{◌≤◌, ◌∙◌, ap, get_or, sym, subst}
use Rattle.rt_seek.specs.ConsumingColumn.{arrival_of}
use Rattle.rt_seek.proofs.Arrived.{first_within, first_led, least_led}
use Rattle.rt_seek.proofs.consuming_column.first_id.Goals as goal

pub returns-clause-value : goal.returns-clause-value
returns-clause-value c =
    let vs = c.args.column.now.values in
    let within = first_within vs c.args.rows c.args.row c.requires in
    ap (λ ids. arrival_of c.args.column.now (get_or ids c.args.row 0)) c.ids.ensures ∙ first_led vs c.args.rows c.args.row within.0 within.1

pub returns-clause-least : goal.returns-clause-least
returns-clause-least c other same =
    let vs = c.args.column.now.values in
    let within = first_within vs c.args.rows c.args.row c.requires in
    let id = ap (λ ids. get_or ids c.args.row 0) c.ids.ensures in
    subst (λ n. n ≤ other) (sym id) (least_led vs c.args.row within.1 other (same ∙ ap (arrival_of c.args.column.now) id))
