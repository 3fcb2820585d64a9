use Rattle.std.proofs.Common.{◌∙◌, ap, arith}
use Rattle.rt_front.proofs.Moves.{hosts, shows, hands_out}
use Rattle.rt_front.proofs.keeper.show.Goals as goal

pub join_seat-requires : goal.join_seat-requires
join_seat-requires g c = (
  c.requires.table.1,
  c.requires.table.2,
  ap (λ m. m.1) c.requires.guest.0,
  omega (arith, c.requires.table.0),
  hosts _ _ _ _ (ap (λ m. m.0.other) c.requires.keeper) (ap (λ m. m.0.other) c.requires.guest.0),
)

pub load-requires : goal.load-requires
load-requires g c =
    let me = c.join_seat.ensures.2 in (
      c.join_seat.ensures.0 ∙ c.requires.table.1,
      omega (arith, c.requires.table.0),
      shows _ _ c.join_seat.new.seat.me.0 c.join_seat.new.seat.me.1 (ap (λ m. m.0.keeps) me ∙ ap (λ m. m.0.keeps) c.requires.keeper),
    )

pub split_seat-requires : goal.split_seat-requires
split_seat-requires g c = (
  c.load.ensures.0 ∙ c.join_seat.ensures.0 ∙ c.requires.table.1,
  omega (arith, c.requires.table.0),
  hands_out _ _ (ap (λ m. m.keeps) c.load.ensures.2.1),
)
