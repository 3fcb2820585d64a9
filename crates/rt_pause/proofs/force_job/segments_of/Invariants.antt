use Rattle.std.proofs.Common.{◌≡◌, drop}
use Rattle.rt_pause.specs.Forced.{with_segments, segments_of}
use Rattle.rt_pause.proofs.force_job.segments_of.Given as goal

-- what is left, kept beside what is kept, is the whole
abbrev pub invariant-loop-replica : goal.invariant-loop-replica
invariant-loop-replica l = with_segments l.segments.items (drop l.replica-index l.replicas) ≡ segments_of l.replicas
