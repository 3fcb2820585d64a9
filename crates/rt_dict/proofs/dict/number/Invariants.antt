use Rattle.std.proofs.Common.{◌≡◌, ◌≤◌, ◌++◌, length, map}
use Rattle.std.specs.List.{All}
use Rattle.std.specs.Vec.Iter.{into_iter_items, into_iter_len}
use Rattle.rt_dict.specs.Values.{AreDistinctValues}
use Rattle.rt_dict.proofs.Numbering.{IsPlaced, Leads}
use Rattle.rt_dict.proofs.dict.number.Given as goal

abbrev pub invariant-loop-placed : goal.invariant-loop-placed
invariant-loop-placed g l = record {
  can : (goal.iterator-loop-placed g).can_next l.placed-iterator;
  finite : (goal.iterator-loop-placed g).is_finite l.placed-iterator;
  list : l.yielded ++ into_iter_items l.placed-iterator ≡ l.fn.sorted.items;
  left : into_iter_len l.placed-iterator ≡ length (into_iter_items l.placed-iterator);
  few : length l.values.items ≤ length l.yielded;
  size : length l.ids.items ≡ length l.keys;
  distinct : AreDistinctValues g.K.Key.below (map (λ placed. placed.key) l.yielded) l.values.items;
  ids : All (λ placed. IsPlaced (λ p. p.key) (λ p. p.place) l.keys placed × Leads (λ p. p.key) (λ p. p.place) l.keys l.values.items l.ids.items placed) l.yielded;
}
