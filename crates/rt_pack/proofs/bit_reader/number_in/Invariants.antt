use Rattle.std.proofs.Common.{◌≡◌, ◌*◌, take}
use Rattle.rt_pack.specs.Bits.{all_bits, number_of}
use Rattle.rt_pack.proofs.bit_reader.number_in.Given as goal

abbrev pub invariant-loop-byte : goal.invariant-loop-byte
invariant-loop-byte l = l.number ≡ number_of (8 * l.byte-index) (all_bits 8 (take l.byte-index l.bytes))
