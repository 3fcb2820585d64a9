use Rattle.std.proofs.Common.{◌≡◌, ◌≤◌}
use Rattle.rt_model.specs.Metadata.{metadata_of}
use Rattle.rt_world.specs.Reading.{last_end}
use Rattle.rt_world.proofs.DoneEnds.{end_below}
use Rattle.rt_world.proofs.ends.end_of.Given as goal

abbrev pub invariant-loop-left : goal.invariant-loop-left
invariant-loop-left l = record {
  sought : end_below l.store.writes l.partition l.left ≡ last_end (record { 0 = 0 }) (metadata_of l.store.writes l.partition);
  small : l.left ≤ 4294967296;
}

abbrev pub decreases-loop-left : goal.decreases-loop-left
decreases-loop-left l = l.left
