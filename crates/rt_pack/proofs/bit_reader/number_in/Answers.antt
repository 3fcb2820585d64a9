use Rattle.std.proofs.Common.{arith, ◌∙◌, ap, ◌*◌, ◌^◌, ◌%◌, bit_or}
use Rattle.rt_pack.proofs.Words.{byte_behind}
use Rattle.rt_pack.proofs.bit_reader.number_in.Goals as goal

pub loop-byte-preserved : goal.loop-byte-preserved
loop-byte-preserved c =
    ap (λ n. bit_or (n * 2 ^ 8 % 2 ^ 64) c.from.result) c.loop-byte.invariant
    ∙ byte_behind c.args.bytes.now c.loop-byte.byte-index c.from.result c.loop-byte-test.true (omega arith) c.from.ensures (omega (arith, c.type_inv.bytes c.loop-byte.byte-index))
