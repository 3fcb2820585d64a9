use Rattle.std.proofs.Common.{◌≡◌, ℕ, List, Option, None, drop}
use Rattle.rt_agg.specs.Paging.{fed}
use Rattle.rt_agg.specs.ResultHolder.{counted_at}
use Rattle.rt_agg.specs.declared.scalar.Scalar.{Scalar}
use Rattle.rt_agg.proofs.counting.add_ones.Given as goal

-- what the rest of the page makes of the counts is what the page makes of them
abbrev pub invariant-loop-placed : goal.invariant-loop-placed
invariant-loop-placed l =
    fed (λ (counts : List ℕ) (group : ℕ) (scalar : Option Scalar). counted_at counts group) (λ number. None) (drop l.placed-index l.page) l.counts
    ≡ fed (λ (counts : List ℕ) (group : ℕ) (scalar : Option Scalar). counted_at counts group) (λ number. None) l.page l.fn.counts
