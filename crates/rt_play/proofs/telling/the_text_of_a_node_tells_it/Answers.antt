use Rattle.rt_play.proofs.TellingMeta.{same_seen}
use Rattle.rt_play.proofs.telling.the_text_of_a_node_tells_it.Goals as goal

pub returns : goal.returns
returns c = same_seen
