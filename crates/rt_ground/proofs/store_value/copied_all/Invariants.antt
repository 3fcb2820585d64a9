use Rattle.std.proofs.Common.{◌≡◌, take}
use Rattle.rt_ground.proofs.store_value.copied_all.Given as goal

-- the copies are equal to the writes so far
abbrev pub invariant-loop-write : goal.invariant-loop-write
invariant-loop-write l = l.copies.items ≡ take l.write-index l.writes
