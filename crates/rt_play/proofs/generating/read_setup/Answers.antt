use Rattle.std.proofs.Common.{◌∙◌}
use Rattle.rt_play.specs.Generating.{header_text}
use Rattle.rt_play.proofs.Generated.{setup_says}
use Rattle.rt_play.proofs.generating.read_setup.Goals as goal

pub returns-clause-says : goal.returns-clause-says
returns-clause-says c =
    setup_says (header_text c.args.partitions) c.as_bytes.result.now c.make-lines.result c.read_header.new.lines c.read_header.result
    c.make-lines.ensures (c.as_bytes.ensures.value ∙ c.in_ok-header.ensures {u = tt}) c.read_header.ensures.reads
