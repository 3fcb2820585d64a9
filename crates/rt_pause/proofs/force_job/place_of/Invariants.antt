use Rattle.std.proofs.Common.{◌≡◌, ◌++◌, take, drop}
use Rattle.rt_pause.specs.Forced.{with_segment}
use Rattle.rt_pause.proofs.force_job.place_of.Given as goal

-- the segment goes behind those so far
abbrev pub invariant-loop-place : goal.invariant-loop-place
invariant-loop-place l =
    with_segment l.segment l.segments ≡ take l.place l.segments ++ with_segment l.segment (drop l.place l.segments)
