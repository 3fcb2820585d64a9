use Rattle.std.proofs.Common.{◌≡◌, map, take}
use Rattle.rt_upsert.specs.Latest.{value_in}
use Rattle.rt_upsert.proofs.reading.key_of.Given as goal

abbrev pub invariant-loop-place : goal.invariant-loop-place
invariant-loop-place l = l.key ≡ map (value_in l.row) (take l.place-index l.places)
