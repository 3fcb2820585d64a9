use Rattle.std.proofs.Common.{ℕ, ◌<◌, ◌≤◌, ◌∙◌, ap, arith, get_or, length, subst, sym}
use Rattle.std.proofs.lemmas.List.{length-map}
use Rattle.rt_segment.specs.Column.{values_in}
use Rattle.rt_seek.specs.Table.{item_at}
use Rattle.rt_seek.proofs.Held.{least_held}
use Rattle.rt_seek.proofs.file_column.held_id.Goals as goal

pub returns-clause-least : goal.returns-clause-least
returns-clause-least c other same =
    let column = c.args.column.now in
    let values = values_in column.dictionary in
    let within : c.args.row < length column.ids = omega (arith, c.requires, length-map column.ids (λ (id : ℕ). item_at values id)) in
    let id = ap (λ ids. get_or ids c.args.row 0) c.ids.ensures.ids in
    subst (λ n. n ≤ other) (sym id)
    (least_held column.dictionary c.ids.ensures.column.dictionary (get_or column.ids c.args.row 0) (c.ids.ensures.column.known c.args.row 0 within) other (same ∙ ap (item_at values) id))
