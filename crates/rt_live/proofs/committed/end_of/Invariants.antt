use Rattle.std.proofs.Common.{◌≡◌, take}
use Rattle.std.specs.Prelude.{fold}
use Rattle.rt_live_end.specs.Ends.{end_after}
use Rattle.rt_live.proofs.committed.end_of.Given as goal

-- the end after the first writes
abbrev pub invariant-loop-write : goal.invariant-loop-write
invariant-loop-write l = l.end ≡ fold (end_after l.partition) 0 (take l.write-index l.history)
