use Rattle.std.proofs.Common.{◌≡◌, drop}
use Rattle.rt_agg.specs.Paging.{fed}
use Rattle.rt_seek.specs.Scalars.{led, scalar_on}
use Rattle.rt_seek.proofs.scalars_by_id.feed_led.Given as goal

-- what the rest of the page makes of the taker is what the page makes of it
abbrev pub invariant-loop-placed : goal.invariant-loop-placed
invariant-loop-placed g l =
    let scalars = scalar_on (led (g.V.ScalarsById.values l.values) l.ids) in
    fed g.T.TakeScalar.takes scalars (drop l.placed-index l.page) l.taker ≡ fed g.T.TakeScalar.takes scalars l.page l.fn.taker
