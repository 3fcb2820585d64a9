use Rattle.std.proofs.Common.{◌≡◌, Fits, w32, w64, subst, rules}
use Rattle.std.specs.List.{All}
use Rattle.rt_segment.specs.Column.{IsColumn}
use Rattle.rt_segment.proofs.sealed.Sealed.make.Goals as goal

pub invariant_of-result : goal.invariant_of-result
invariant_of-result c =
    let p : Fits w32 c.args.partition.0 = search rules in
    let q : Fits w32 c.args.sequence.0 = search rules in
    let b : Fits w64 c.args.range.end.0 = search rules in
    let columns : c.as_slice.result.now ≡ c.args.columns = c.as_slice.ensures in (
      record { sealable = c.requires; columns = subst (All IsColumn) columns c.are_whole.ensures; partition = p.fits; sequence = q.fits; end = b.fits },
      tt,
    )
