use Rattle.std.proofs.Common.{◌<◌, length, arith}
use Rattle.rt_lines.proofs.Digits.{tens_overflow, more_overflow, digit_at}
use Rattle.rt_lines.proofs.numeral.value_of_digits.Goals as goal

pub returns-in-None-checked_add-clause-none : goal.returns-in-None-checked_add-clause-none
returns-in-None-checked_add-clause-none c =
    let digits = c.args.digits.now in
    let within : c.loop-digit.digit-index < length digits = omega arith in
    more_overflow digits c.loop-digit.digit-index c.loop-digit.value within (digit_at digits c.loop-digit.digit-index c.requires within) c.loop-digit.invariant
    (omega (arith, c.in-None-checked_add.ensures, c.in-Some.ensures, c.from.ensures))

pub returns-in-None-clause-none : goal.returns-in-None-clause-none
returns-in-None-clause-none c =
    tens_overflow c.args.digits.now c.loop-digit.digit-index c.loop-digit.value (omega arith) c.loop-digit.invariant (omega (arith, c.in-None.ensures))
