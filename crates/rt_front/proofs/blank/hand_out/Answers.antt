use Rattle.std.proofs.Common.{ap, arith}
use Rattle.rt_front.proofs.Moves.{hands_out}
use Rattle.rt_front.proofs.blank.hand_out.Goals as goal

pub split_seat-requires : goal.split_seat-requires
split_seat-requires g c = (
  c.requires.table.1,
  omega (arith, c.requires.table.0),
  hands_out _ _ (ap (λ m. m.0.keeps) c.requires.keeper),
)
