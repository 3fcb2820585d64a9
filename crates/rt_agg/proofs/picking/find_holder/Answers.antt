use Rattle.std.proofs.Common.{arith}
use Rattle.std.proofs.lemmas.Option.{slice_get_within}
use Rattle.rt_agg.proofs.Untold.{none_shown}
use Rattle.rt_agg.proofs.picking.find_holder.Goals as goal

pub returns-clause-none : goal.returns-clause-none
returns-clause-none c =
    let places = c.args.places.now in
    none_shown c.args.holders.now c.args.item.now places
    (λ j p there. c.loop-place.invariant j p (omega (arith, slice_get_within places j p there, c.loop-place-test.false, c.loop-place.auto.place-index-end)) there)
