use Rattle.std.proofs.Common.{◌∙◌, ap, drop}
use Rattle.std.specs.Ordering.{ordering_then}
use Rattle.rt_model.specs.Aggregate.{order_cmp}
use Rattle.rt_model.specs.Values.{key_cmp}
use Rattle.rt_agg.specs.Sharing.{cells_at}
use Rattle.rt_agg.proofs.Spreading.{cells_behind}
use Rattle.rt_agg.proofs.shared_holders.SharedHolders.compare_behind.Goals as goal

pub returns : goal.returns
returns c =
    let all = c.self.inside in
    let columns = c.args.columns.now in
    let order = c.args.order.now in
    let one = c.args.one.now in
    let other = c.args.other.now in
    let now = c.behind-places.result.now in
    let places = c.behind-places.ensures ∙ ap (drop c.args.width) c.as_slice.ensures in
    let first = (λ j. cells_at columns one.key.now one.number (c.as_slice-held.ensures j) now) ∙ cells_behind columns one.key.now one.number all.held c.args.width all.places now c.args.self.now places c.self.view_is in
    let second = (λ j. cells_at columns other.key.now other.number (c.as_slice-held.ensures j) now) ∙ cells_behind columns other.key.now other.number all.held c.args.width all.places now c.args.self.now places c.self.view_is in
    c.compare_groups.ensures ∙ (λ j. ordering_then (order_cmp order (first j) (second j)) (key_cmp one.key.now other.key.now))
