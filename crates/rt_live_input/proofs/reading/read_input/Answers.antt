use Rattle.std.proofs.Common.{◌∙◌, ap, sym}
use Rattle.rt_lines.specs.Header.{header_of}
use Rattle.rt_live_input.proofs.Inputs.{behind_fits, behind_is_read}
use Rattle.rt_live_input.proofs.reading.read_input.Goals as goal

pub returns-in-Ok-clause-reads : goal.returns-in-Ok-clause-reads
returns-in-Ok-clause-reads c =
    behind_is_read c.args.text.now c.in-Ok.setup c.read_header.new.lines.lines c.read_behind.result (ap header_of (sym c.make-lines.ensures) ∙ c.in-Ok.ensures.reads.0) c.in-Ok.ensures.taken c.read_behind.ensures

pub returns-in-Ok-clause-fits : goal.returns-in-Ok-clause-fits
returns-in-Ok-clause-fits c =
    behind_fits c.args.text.now c.in-Ok.setup c.read_header.new.lines.lines c.read_behind.result (ap header_of (sym c.make-lines.ensures) ∙ c.in-Ok.ensures.reads.0) c.in-Ok.ensures.taken c.read_behind.ensures
