use Rattle.std.proofs.Common.{◌≡◌, filter, take}
use Rattle.rt_pause.specs.Forced.{is_pending}
use Rattle.rt_pause.proofs.force_job.ForceJob.pending.Given as goal

abbrev pub invariant-loop-segment : goal.invariant-loop-segment
invariant-loop-segment l = l.pending ≡ filter (is_pending l.nodes) (take l.segment-index l.self)
