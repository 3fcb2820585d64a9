use Rattle.std.proofs.Common.{arith, sym, ◌∙◌}
use Rattle.rt_agg.specs.Sharing.{cells_at}
use Rattle.rt_agg.proofs.Walks.{order_next}
use Rattle.rt_agg.proofs.group_cells.compare_orders.Goals as goal

pub loop-i-preserved : goal.loop-i-preserved
loop-i-preserved c =
    let columns = c.args.columns.now in
    let held = c.args.held.now in
    let places = c.args.places.now in
    order_next c.args.order.now (cells_at columns c.args.one.now.key.now c.args.one.now.number held places) (cells_at columns c.args.other.now.key.now c.args.other.now.number held places)
    c.loop-i.i c.index-order-i.result (omega arith) c.index-order-i.is
    (sym c.compare_at.ensures ∙ c.in-Equal.is) c.loop-i.invariant
