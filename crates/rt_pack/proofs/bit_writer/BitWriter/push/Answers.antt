use Rattle.std.proofs.Common.{arith, ◌∙◌, ap, ◌+◌, ◌*◌, ◌%◌, ◌^◌, ◌++◌, bit_or, ◌-◌, ◌/◌}
use Rattle.rt_pack.proofs.Writing.{joined_below, joined_view, word_below, word_written, AllFit_written, masked_below}
use Rattle.rt_pack.proofs.bit_writer.BitWriter.push.Goals as goal

pub invariant_of-self : goal.invariant_of-self
invariant_of-self c = (c.self.invariant.0, c.if-count-lt32.true, joined_below c.self.inside.held c.self.inside.count c.args.number c.args.width c.from.result c.self.invariant.2 (omega arith) c.requires.fits c.from.ensures)

pub returns-then-count-lt32-clause-ok : goal.returns-then-count-lt32-clause-ok
returns-then-count-lt32-clause-ok c =
    joined_view c.self.inside.bytes.items c.args.self.now c.self.inside.held c.self.inside.count c.args.number c.args.width c.from.result c.self.invariant.2 (omega arith) c.requires.fits c.from.ensures c.self.view_is

pub overflow_cast-word-2 : goal.overflow_cast-word-2
overflow_cast-word-2 c =
    let a = c.self.inside in
    omega (arith, word_below _ (a.count + c.args.width) (joined_below a.held a.count c.args.number c.args.width c.from.result c.self.invariant.2 (omega arith) c.requires.fits c.from.ensures) c.if-count-lt32.false)

pub returns-clause-ok : goal.returns-clause-ok
returns-clause-ok c =
    let a = c.self.inside in
    let held = bit_or (a.held * 2 ^ c.args.width % 2 ^ 64) c.from.result in
    word_written a.bytes.items c.extend_from_slice.new.self.items held (a.count + c.args.width) c.if-count-lt32.false (omega arith)
    (c.in_ok-extend_from_slice.ensures.items ∙ ap (λ bs. a.bytes.items ++ bs) c.to_be_bytes.ensures)
    ∙ joined_view a.bytes.items c.args.self.now a.held a.count c.args.number c.args.width c.from.result c.self.invariant.2 (omega arith) c.requires.fits c.from.ensures c.self.view_is

pub invariant_of-self-2 : goal.invariant_of-self-2
invariant_of-self-2 c =
    let a = c.self.inside in
    let held = bit_or (a.held * 2 ^ c.args.width % 2 ^ 64) c.from.result in
    let count = a.count + c.args.width - 32 in (
      AllFit_written a.bytes.items c.extend_from_slice.new.self.items (held / 2 ^ count) c.self.invariant.0
          (c.in_ok-extend_from_slice.ensures.items ∙ ap (λ bs. a.bytes.items ++ bs) c.to_be_bytes.ensures),
      omega arith,
      masked_below held count (omega arith),
    )
