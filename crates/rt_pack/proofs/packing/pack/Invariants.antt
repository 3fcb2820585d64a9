use Rattle.std.proofs.Common.{◌≡◌, take}
use Rattle.rt_pack.specs.Bits.{all_bits}
use Rattle.rt_pack.proofs.packing.pack.Given as goal

abbrev pub invariant-loop-id : goal.invariant-loop-id
invariant-loop-id l = l.writer ≡ all_bits l.width (take l.id-index l.ids)
