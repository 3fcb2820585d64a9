use Rattle.std.proofs.Common.{◌≡◌, ◌+◌, nat_lt, drop}
use Rattle.std.specs.List.{prefix_len}
use Rattle.rt_macros.proofs.resting.known.Given as goal

abbrev pub invariant-loop-at : goal.invariant-loop-at
invariant-loop-at l =
    l.at + prefix_len (λ s. nat_lt s.0.0 l.partitions) (drop l.at l.segments) ≡ prefix_len (λ s. nat_lt s.0.0 l.partitions) l.segments
