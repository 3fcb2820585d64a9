use Rattle.std.proofs.Common.{◌≡◌, ◌≤◌, ◌-◌, length, map, vec_len, vec_capacity}
use Rattle.std.specs.List.{range_with_len}
use Rattle.std.specs.Vec.Iter.{into_iter_items, into_iter_len}
use Rattle.rt_ground.specs.Callers.{fronts_from, new_caller}
use Rattle.rt_ground.proofs.ground.Ground.callers.Given as goal

-- the callers so far have the numbers so far, and the fronts that are left have the later ones
abbrev pub invariant-loop-number : goal.invariant-loop-number
invariant-loop-number g l = record {
  stores : into_iter_items l.stores ≡ fronts_from g.J.Naming.names.store l._number (l.count - l._number);
  deeps : into_iter_items l.deeps ≡ fronts_from g.J.Naming.names.deep l._number (l.count - l._number);
  streams : into_iter_items l.streams ≡ fronts_from g.J.Naming.names.stream l._number (l.count - l._number);
  stores_left : into_iter_len l.stores ≡ length (into_iter_items l.stores);
  deeps_left : into_iter_len l.deeps ≡ length (into_iter_items l.deeps);
  streams_left : into_iter_len l.streams ≡ length (into_iter_items l.streams);
  callers : l.callers.items ≡ map (new_caller g.J.Naming.names) (range_with_len 0 l._number);
  made : vec_len l.callers ≡ l._number;
  room : l.count ≤ vec_capacity l.callers;
}
