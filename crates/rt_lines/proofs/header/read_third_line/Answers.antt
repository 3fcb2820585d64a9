use Rattle.rt_lines.proofs.Headers.{cluster_taken}
use Rattle.rt_lines.proofs.header.read_third_line.Goals as goal

pub returns-in-Ok-clause-taken : goal.returns-in-Ok-clause-taken
returns-in-Ok-clause-taken c =
    cluster_taken c.args.said.schema c.args.said.table (c.in-Ok.number, c.in-Ok.line.now) c.setup.result c.requires.schema c.requires.table c.setup.ensures
