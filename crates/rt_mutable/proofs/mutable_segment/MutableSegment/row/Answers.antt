use Rattle.std.proofs.Common.{◌≡◌, ◌+◌, ◌<◌, List, All, length, map, slice_get, Some, sym, ap, ◌∙◌, subst, arith}
use Rattle.rt_schema.specs.declared.value.Value.{Value}
use Rattle.rt_mutable.specs.Column.{Filled}
use Rattle.rt_mutable.specs.Columns.{cell_at, row_at}
use Rattle.rt_mutable.specs.Consuming.{rows_of}
use Rattle.rt_mutable.proofs.Rows.{have_row, row_found, length_rows}
use Rattle.rt_mutable.proofs.mutable_segment.MutableSegment.row.Goals as goal

pub values_of_row-requires : goal.values_of_row-requires
values_of_row-requires c =
    let within = have_row (length c.self.inside.offsets.items) c.args.number c.self.inside.columns c.self.invariant.full
    (omega (arith, c.requires, ap (λ s. length s.rows) c.self.view_is, length_rows 0 c.self.inside.columns c.self.inside.offsets.items)) in
    subst (λ (cs : List Filled). All (λ column. c.args.number < length column.values) cs) (sym c.as_slice.ensures) within

pub returns : goal.returns
returns c =
    let found = row_found 0 c.self.inside.columns c.self.inside.offsets.items c.args.number
    (omega (arith, c.requires, ap (λ s. length s.rows) c.self.view_is, length_rows 0 c.self.inside.columns c.self.inside.offsets.items)) in
    let place : 0 + c.args.number ≡ c.args.number = omega arith in
    let values : map (cell_at c.args.number) c.self.inside.columns ≡ c.in_ok-values.values = ap (map (cell_at c.args.number)) (sym c.as_slice.ensures) ∙ sym c.in_ok-values.ensures in
    ap (λ s. slice_get (rows_of s) c.args.number) (sym c.self.view_is) ∙ found
    ∙ ap (λ k. Some (row_at k c.self.inside.columns)) place
    ∙ ap (λ (vs : List Value). Some (record { values = vs })) values
