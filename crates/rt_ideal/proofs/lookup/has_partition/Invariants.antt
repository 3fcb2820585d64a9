use Rattle.std.proofs.Common.{◌≡◌, drop}
use Rattle.rt_model.specs.Ideal.{has_partition}
use Rattle.rt_ideal.proofs.lookup.has_partition.Given as goal

-- the entries so far are none of the partition's
abbrev pub invariant-loop-entry : goal.invariant-loop-entry
invariant-loop-entry l =
    has_partition l.entries l.partition ≡ has_partition (drop l.entry-index l.entries) l.partition
