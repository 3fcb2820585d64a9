use Rattle.std.proofs.Common.{◌≡◌, drop}
use Rattle.rt_model.specs.Aggregate.{order_cmp}
use Rattle.rt_agg.specs.Sharing.{cells_at}
use Rattle.rt_agg.proofs.group_cells.compare_orders.Given as goal

abbrev pub invariant-loop-i : goal.invariant-loop-i
invariant-loop-i l =
    order_cmp (drop l.i l.order) (drop l.i (cells_at l.columns l.one.key.now l.one.number l.held l.places)) (drop l.i (cells_at l.columns l.other.key.now l.other.number l.held l.places))
    ≡ order_cmp l.order (cells_at l.columns l.one.key.now l.one.number l.held l.places) (cells_at l.columns l.other.key.now l.other.number l.held l.places)
