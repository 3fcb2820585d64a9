use Rattle.std.proofs.Common.{arith}
use Rattle.rt_front.proofs.Moves.{looks}
use Rattle.rt_front.proofs.front.look_from.Goals as goal

pub load-requires : goal.load-requires
load-requires g c = (
  c.requires.table.1,
  omega (arith, c.requires.table.0),
  looks _ _ c.args.seat.now.me.0 c.args.seat.now.me.1,
)
