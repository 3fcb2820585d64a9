use Rattle.std.proofs.Common.{◌-◌, length}
use Rattle.rt_scan.specs.IndexById.{HasNoMore}
use Rattle.rt_scan.proofs.index_by_id.make_room.Given as goal

abbrev pub invariant-loop-indices : goal.invariant-loop-indices
invariant-loop-indices l = record {
  more : HasNoMore l.initial.indices.items l.indices.items;
  kept : HasNoMore l.indices.items l.initial.indices.items;
}

abbrev pub decreases-loop-indices : goal.decreases-loop-indices
decreases-loop-indices l = l.count - length l.indices.items
