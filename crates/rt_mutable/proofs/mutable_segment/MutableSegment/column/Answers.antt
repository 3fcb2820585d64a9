use Rattle.std.proofs.Common.{◌≡◌, Some, slice_get, length, ap, refl, ◌∙◌, sym, arith}
use Rattle.std.proofs.lemmas.Option.{slice_get_read}
use Rattle.std.proofs.lemmas.List.{length-map}
use Rattle.rt_mutable.specs.Consuming.{values_at}
use Rattle.rt_mutable.proofs.Rows.{values_are}
use Rattle.rt_mutable.proofs.mutable_segment.MutableSegment.column.Goals as goal

pub returns-clause-values : goal.returns-clause-values
returns-clause-values c =
    let count = length-map c.self.inside.columns (λ column. column.shape) in
    let at : slice_get c.as_slice.result.now c.args.place ≡ Some c.index-as_slice-place.result =
    slice_get_read c.as_slice.result.now (length c.as_slice.result.now) c.args.place c.index-as_slice-place.result refl
    (omega (arith, c.requires, ap (λ s. length s.columns) c.self.view_is, count, ap length c.as_slice.ensures)) c.index-as_slice-place.is in
    let found = ap (λ cs. slice_get cs c.args.place) (sym c.as_slice.ensures) ∙ at in
    values_are c.self.inside.columns c.self.inside.offsets.items c.args.place c.index-as_slice-place.result c.self.invariant.full found
    ∙ ap (λ s. values_at c.args.place s.rows) c.self.view_is
