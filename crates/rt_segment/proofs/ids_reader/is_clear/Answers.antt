use Rattle.std.proofs.Common.{sym, ◌∙◌, arith}
use Rattle.rt_pack.specs.Bits.{all_bits}
use Rattle.rt_pack.proofs.BitLists.{length_all_bits}
use Rattle.rt_segment.proofs.Ids.{clear_end}
use Rattle.rt_segment.proofs.ids_reader.is_clear.Goals as goal

pub returns : goal.returns
returns c =
    let bytes = c.args.bytes.now in
    sym (clear_end (all_bits 8 bytes) c.loop-bit.bit (omega (arith, length_all_bits 8 bytes, c.loop-bit-test.false))) ∙ c.loop-bit.invariant
