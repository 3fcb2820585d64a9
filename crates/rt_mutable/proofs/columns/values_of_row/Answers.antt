use Rattle.std.proofs.Common.{◌≡◌, false, [], ◌∷◌, ◌++◌, sym, ap, ◌∙◌, arith}
use Rattle.std.proofs.lemmas.List.{map_more}
use Rattle.std.proofs.lemmas.Option.{get_or_from_slice_get}
use Rattle.rt_schema.specs.declared.value.Value.TheVariants as value
use Rattle.rt_mutable.specs.Columns.{cell_at}
use Rattle.rt_mutable.proofs.columns.values_of_row.Goals as goal

pub loop-column-preserved : goal.loop-column-preserved
loop-column-preserved c =
    let column = c.column-item.result in
    let cell : cell_at c.args.number column ≡ c.in_ok-value_in.field-0 =
    get_or_from_slice_get column.values c.args.number c.in_ok-value_in.field-0 (value.Bool false) c.in_ok-value_in.ensures in
    c.in_ok-push.ensures.items
    ∙ (λ j. c.loop-column.invariant j ++ (sym cell ∙ ap (cell_at c.args.number) c.column-item.is) j ∷ [])
    ∙ sym (map_more (cell_at c.args.number) c.args.columns.now c.loop-column.column-index column (omega arith))
