use Rattle.std.proofs.Common.{◌≡◌, drop}
use Rattle.rt_agg.specs.Paging.{fed}
use Rattle.rt_agg.proofs.take_scalar.take_same.Given as goal

-- what the rest of the page makes of the taker is what the page makes of it
abbrev pub invariant-loop-placed : goal.invariant-loop-placed
invariant-loop-placed g l =
    fed g.T.TakeScalar.takes (λ number. l.scalar) (drop l.placed-index l.page) l.taker ≡ fed g.T.TakeScalar.takes (λ number. l.scalar) l.page l.fn.taker
