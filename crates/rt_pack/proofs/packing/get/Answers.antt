use Rattle.std.proofs.Common.{◌≡◌, ◌≤◌, ◌+◌, ◌*◌, ◌-◌, ◌/◌, ◌%◌, ◌^◌, arith, ◌∙◌, ap, bit_and, drop, length}
use Rattle.rt_pack.specs.Bits.{all_bits, number_of}
use Rattle.rt_pack.proofs.Writing.{got}
use Rattle.rt_pack.proofs.packing.get.Goals as goal

pub returns : goal.returns
returns c =
    let bytes = c.args.bytes.now in
    let width = c.args.width in
    let start = c.from.result * c.from-2.result in
    let window = c.number_in-window.result in
    let last = c.div_ceil-last.result in
    let begins : start ≡ c.args.row * width = ap (λ r. r * c.from-2.result) c.from.ensures ∙ ap (λ w. c.args.row * w) c.from-2.ensures in
    let there : start + width ≤ 8 * length bytes = omega (arith, c.requires.there) in
    let ends : last ≡ (start + width + 7) / 8 = omega (arith, c.div_ceil-last.ensures, c.from-3.ensures) in
    ap (λ w. bit_and (window / 2 ^ (last * 8 - (start + w))) (1 * 2 ^ width % 2 ^ 64 - 1)) c.from-3.ensures
    ∙ got bytes start width last window c.requires.narrow there ends c.number_in-window.ensures
    ∙ ap (λ n. number_of width (drop n (all_bits 8 bytes))) begins
