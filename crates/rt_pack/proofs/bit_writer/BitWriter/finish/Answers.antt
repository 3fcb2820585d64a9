use Rattle.std.proofs.Common.{arith, ◌∙◌, ap, ◌++◌, take}
use Rattle.rt_pack.proofs.Writing.{last_word_below, finished}
use Rattle.rt_pack.proofs.bit_writer.BitWriter.finish.Goals as goal

pub overflow_cast-word-2 : goal.overflow_cast-word-2
overflow_cast-word-2 c = omega (arith, last_word_below c.self.inside.held c.self.inside.count c.self.invariant.2 c.self.invariant.1)

pub returns : goal.returns
returns c =
    let a = c.self.inside in
    let filled = c.div_ceil-filled.result in
    finished a.bytes.items c.extend_from_slice.new.self.items c.args.self a.held a.count filled c.self.invariant.0 c.self.invariant.1 c.self.invariant.2
    (omega (arith, c.div_ceil-filled.ensures))
    (c.in_ok-extend_from_slice.ensures.items ∙ ap (λ bs. a.bytes.items ++ take filled bs) c.to_be_bytes.ensures)
    c.self.view_is
