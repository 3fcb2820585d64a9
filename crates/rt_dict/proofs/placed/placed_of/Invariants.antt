use Rattle.std.proofs.Common.{◌≡◌, map, take}
use Rattle.std.specs.List.{range_with_len}
use Rattle.rt_dict.proofs.placed.placed_of.Given as goal

abbrev pub invariant-loop-place : goal.invariant-loop-place
invariant-loop-place g l = record {
  keys : map (λ placed. placed.key) l.all.items ≡ take l.place l.keys;
  places : map (λ placed. placed.place) l.all.items ≡ range_with_len 0 l.place;
}
