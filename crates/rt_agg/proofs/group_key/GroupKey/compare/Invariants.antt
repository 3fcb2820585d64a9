use Rattle.std.proofs.Common.{◌≡◌, drop}
use Rattle.rt_model.specs.Values.{key_cmp}
use Rattle.rt_agg.proofs.group_key.GroupKey.compare.Given as goal

abbrev pub invariant-loop-place : goal.invariant-loop-place
invariant-loop-place l = key_cmp (drop l.place l.self) (drop l.place l.other) ≡ key_cmp l.self l.other
