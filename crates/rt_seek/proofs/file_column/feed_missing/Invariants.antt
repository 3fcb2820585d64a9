use Rattle.std.proofs.Common.{◌≡◌, drop, replicate}
use Rattle.rt_agg.specs.Paging.{fed}
use Rattle.rt_seek.specs.Scalars.{scalar_on}
use Rattle.rt_seek.proofs.file_column.feed_missing.Given as goal

-- what the rest of the page makes of the taker is what the page makes of it
abbrev pub invariant-loop-placed : goal.invariant-loop-placed
invariant-loop-placed g l =
    let scalars = scalar_on (replicate l.rows l.value) in
    fed g.T.TakeScalar.takes scalars (drop l.placed-index l.page) l.taker ≡ fed g.T.TakeScalar.takes scalars l.page l.fn.taker
