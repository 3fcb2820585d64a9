use Rattle.std.proofs.Common.{◌≡◌, take}
use Rattle.rt_model.specs.Ideal.{remove_segment_of}
use Rattle.rt_ideal.proofs.steps.remove_segment.Given as goal

abbrev pub invariant-loop-entry : goal.invariant-loop-entry
invariant-loop-entry l =
    l.after.items ≡ remove_segment_of (take l.entry-index l.entry-items) l.partition l.sequence
