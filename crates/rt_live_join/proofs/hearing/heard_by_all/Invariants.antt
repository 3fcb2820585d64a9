use Rattle.std.proofs.Common.{◌≡◌, ◌++◌, length, map, Some}
use Rattle.std.specs.Vec.Iter.{into_iter_items, into_iter_len}
use Rattle.rt_live_join.proofs.hearing.heard_by_all.Given as goal

abbrev pub invariant-loop-one : goal.invariant-loop-one
invariant-loop-one l = record {
  left : into_iter_len l.one-iterator ≡ length (into_iter_items l.one-iterator);
  shown : map Some l.all ++ into_iter_items l.one-iterator ≡ l.fn.heard.items;
}
