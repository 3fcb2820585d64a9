use Rattle.std.proofs.Common.{◌≡◌, List, length, ap, arith, ◌∙◌}
use Rattle.rt_base.specs.declared.numbers.Offset.{Offset}
use Rattle.rt_live_broker.proofs.Wholes.{one_each}
use Rattle.rt_live_broker.proofs.seat.BrokerSeat.make.Goals as goal

pub whole_ranges-requires : goal.whole_ranges-requires
whole_ranges-requires g c =
    let count : length c.as_slice.result.now ≡ c.args.setup.now.partitions =
    ap (λ (ls : List Offset). length ls) (c.as_slice.ensures ∙ c.in_ok-lengths.ensures) ∙ one_each c.args.setup.now.partitions c.args.rows.now in
    omega (arith, count, c.requires.setup.1.few_partitions)
