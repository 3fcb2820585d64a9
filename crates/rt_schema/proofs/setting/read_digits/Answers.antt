use Rattle.std.proofs.Common.{arith}
use Rattle.rt_schema.proofs.Digits.{one_digit_more}
use Rattle.rt_schema.proofs.setting.read_digits.Goals as goal

pub overflow_mul-number : goal.overflow_mul-number
overflow_mul-number c = omega (arith, one_digit_more c.loop-digit.number c.loop-digit.digit-index c.loop-digit.invariant.small (omega arith))

pub overflow_add-number : goal.overflow_add-number
overflow_add-number c = omega (arith, one_digit_more c.loop-digit.number c.loop-digit.digit-index c.loop-digit.invariant.small (omega arith))
