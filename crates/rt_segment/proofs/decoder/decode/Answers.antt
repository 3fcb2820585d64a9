use Rattle.std.proofs.Common.{arith}
use Rattle.rt_segment.proofs.FileLaws.{answer_spelled, answer_only}
use Rattle.rt_segment.proofs.decoder.decode.Goals as goal

pub returns-clause-spelled : goal.returns-clause-spelled
returns-clause-spelled c = answer_spelled c.args.bytes.now c.read_file.result (λ i. omega (arith, c.type_inv.bytes i)) c.read_file.ensures

pub returns-clause-only : goal.returns-clause-only
returns-clause-only c = answer_only c.args.bytes.now c.read_file.result c.read_file.ensures
