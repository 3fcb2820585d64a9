use Rattle.std.proofs.Common.{◌≡◌, map, take}
use Rattle.rt_upsert.specs.Latest.{place_of}
use Rattle.rt_upsert.proofs.upsert.places_of.Given as goal

abbrev pub invariant-loop-name : goal.invariant-loop-name
invariant-loop-name l = l.places ≡ map (λ name. place_of name l.columns) (take l.name-index l.names)
