use Rattle.std.proofs.Common.{◌∙◌, arith}
use Rattle.rt_entry.proofs.Copies.{file_taken}
use Rattle.rt_entry.proofs.serving.rows_of.Goals as goal

pub returns : goal.returns
returns c =
    c.loop-number.invariant
    ∙ file_taken c.args.file.now c.loop-number.number (omega (arith, c.rows-count.ensures.rows))
