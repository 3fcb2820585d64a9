use Rattle.rt_lines.proofs.ClusterLines.{lines_spelled}
use Rattle.rt_lines.proofs.laws.cluster_lines_are_what_they_spell.Goals as goal

pub returns : goal.returns
returns c = lines_spelled
