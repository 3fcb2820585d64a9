use Rattle.std.proofs.Common.{◌≡◌, ◌≤◌, drop, max}
use Rattle.rt_model.specs.Metadata.{sequences_of}
use Rattle.rt_world.proofs.ends.sequences_of.Given as goal

abbrev pub invariant-loop-write : goal.invariant-loop-write
invariant-loop-write l = record {
  past : max l.past (sequences_of (drop l.write-index l.writes) l.partition) ≡ sequences_of l.writes l.partition;
  small : l.past ≤ 4294967296;
}
