use Rattle.rt_live_end.proofs.Parts.{controllers_more, servers_more}
use Rattle.rt_live_end.proofs.joining.the_parts_are_had_in_order.Goals as goal

pub returns : goal.returns
returns c = record { servers = servers_more; controllers = controllers_more }
