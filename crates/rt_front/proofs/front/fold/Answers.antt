use Rattle.std.proofs.Common.{◌∙◌, ap, arith}
use Rattle.rt_front.proofs.Moves.{hosts, folds}
use Rattle.rt_front.proofs.front.fold.Goals as goal

pub join_seat-requires : goal.join_seat-requires
join_seat-requires g c = (
  c.requires.table.1,
  c.requires.table.2,
  ap (λ m. m.1) c.requires.other.0,
  omega (arith, c.requires.table.0),
  hosts _ _ _ _ (ap (λ m. m.0.other) c.requires.seat.0) (ap (λ m. m.0.other) c.requires.other.0),
)

pub load-requires : goal.load-requires
load-requires g c = (
  c.join_seat.ensures.0 ∙ c.requires.table.1,
  omega (arith, c.requires.table.0),
  folds _ _ c.join_seat.new.seat.me.0 c.join_seat.new.seat.me.1,
)
