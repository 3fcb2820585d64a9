use Rattle.std.proofs.Common.{arith}
use Rattle.rt_schema.proofs.Plain.{decimal_first, decimal_more}
use Rattle.rt_schema.proofs.plain_reader.plain_integer.Goals as goal

pub loop-at-init : goal.loop-at-init
loop-at-init c = decimal_first c.args.text.now c.in_ok-first.field-0.now c.in_ok-number.number (c.in_ok-first.ensures {u = tt}).value (c.in_ok-number.ensures {u = tt}).below (c.in_ok-number.ensures {u = tt}).byte

pub loop-at-preserved : goal.loop-at-preserved
loop-at-preserved c = decimal_more c.args.text.now c.loop-at.at c.loop-at.number c.in-Some.last (omega arith) (omega arith) (c.in-Some.ensures {u = tt}).below (omega arith) (c.in-Some.ensures {u = tt}).byte c.loop-at.invariant
