use Rattle.std.proofs.Common.{◌≡◌, drop}
use Rattle.rt_pack.specs.Bits.{all_bits}
use Rattle.rt_segment.specs.Reading.{are_clear}
use Rattle.rt_segment.proofs.ids_reader.is_clear.Given as goal

abbrev pub invariant-loop-bit : goal.invariant-loop-bit
invariant-loop-bit l = are_clear (drop l.bit (all_bits 8 l.bytes)) ≡ are_clear (drop l.start (all_bits 8 l.bytes))
