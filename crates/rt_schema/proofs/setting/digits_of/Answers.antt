use Rattle.std.proofs.Common.{length, arith}
use Rattle.rt_schema.proofs.Digits.{fewer_digits}
use Rattle.rt_schema.proofs.setting.digits_of.Goals as goal

pub returns-clause-small : goal.returns-clause-small
returns-clause-small c = fewer_digits c.read_digits.result (length c.args.text.now) c.args.most c.read_digits.ensures.small (omega arith)
