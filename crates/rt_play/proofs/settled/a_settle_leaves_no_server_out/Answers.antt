use Rattle.rt_play.proofs.Turned.{settle_turns}
use Rattle.rt_play.proofs.settled.a_settle_leaves_no_server_out.Goals as goal

pub returns : goal.returns
returns c = settle_turns
