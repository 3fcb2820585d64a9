use Rattle.std.proofs.Common.{◌≡◌, ◌+◌, ◌≤◌, length}
use Rattle.std.specs.Prelude.{vec_len, vec_capacity}
use Rattle.std.specs.Slice.Iter.{iter_rest}
use Rattle.rt_model.specs.Ideal.{with_consuming}
use Rattle.rt_ideal.proofs.places.add_segment.Given as goal

-- what is left to be added, then added to what stands there, is the whole, and there is room for it
abbrev pub invariant-loop-instance : goal.invariant-loop-instance
invariant-loop-instance l =
    (with_consuming l.initial.entries.items l.partition l.sequence l.instances
    ≡ with_consuming l.entries.items l.partition l.sequence (iter_rest l.instance-iterator.iter))
    × (vec_len l.entries + length (iter_rest l.instance-iterator.iter) ≤ vec_capacity l.entries)
