use Rattle.std.proofs.Common.{◌≡◌, ◌*◌, drop}
use Rattle.rt_pack.specs.Bits.{all_bits, numbers_of}
use Rattle.rt_pack.proofs.packing.unpack.Given as goal

abbrev pub invariant-loop-row : goal.invariant-loop-row
invariant-loop-row l = record {
  ids : l.ids.items ≡ numbers_of l.width l._row (all_bits 8 l.bytes);
  left : l.reader ≡ drop (l._row * l.width) (all_bits 8 l.bytes);
}
