use Rattle.std.proofs.Common.{◌∙◌, ap, sym, arith, length}
use Rattle.rt_front.specs.Rules.{has_none}
use Rattle.rt_front.proofs.Moves.{hosts, advances, hands_out}
use Rattle.rt_front.proofs.keeper.add_for.Goals as goal

pub join_seat-requires : goal.join_seat-requires
join_seat-requires g c = (
  c.requires.table.1,
  c.requires.table.2,
  ap (λ m. m.1) c.requires.guest.0,
  omega (arith, c.requires.table.0),
  hosts _ _ _ _ (ap (λ m. m.0.other) c.requires.keeper.0) (ap (λ m. m.0.other) c.requires.guest.0),
)

pub compare_exchange_with-requires : goal.compare_exchange_with-requires
compare_exchange_with-requires g c =
    let me = c.join_seat.ensures.2 in (
      c.join_seat.ensures.0 ∙ c.requires.table.1,
      omega (arith, c.requires.table.0),
      advances _ _ c.join_seat.new.seat.me.0 c.join_seat.new.seat.me.1 _ _
          (ap (λ m. m.0.keeps) me ∙ ap (λ m. m.0.keeps) c.requires.keeper.0)
          (c.requires.keeper.1 ∙ ap (λ m. length m.0.own.seen) (sym me))
          (ap (λ m. has_none m.0.other.numbers) me ∙ c.requires.guest.1),
    )

pub split_seat-requires : goal.split_seat-requires
split_seat-requires g c = (
  c.compare_exchange_with.ensures.0 ∙ c.join_seat.ensures.0 ∙ c.requires.table.1,
  omega (arith, c.requires.table.0),
  hands_out _ _ (ap (λ m. m.keeps) c.compare_exchange_with.ensures.2.1.0),
)
