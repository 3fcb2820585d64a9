use Rattle.std.proofs.Common.{◌∙◌, drop, map, sym}
use Rattle.std.specs.Ordering.{ordering_then}
use Rattle.rt_model.specs.Aggregate.{order_cmp, result_cmp}
use Rattle.rt_model.specs.Values.{key_cmp}
use Rattle.rt_agg.specs.ResultHolder.{cell_held}
use Rattle.rt_agg.proofs.Showing.{ranked_by}
use Rattle.rt_agg.proofs.group_table.GroupTable.compare.Goals as goal

pub returns : goal.returns
returns c =
    let held = c.self.inside in
    let order = c.args.order.now in
    let holders = drop c.args.width held.holders in
    let key = c.group-one.result.key.now in
    let other_key = c.group-other.result.key.now in
    let one = ranked_by held.columns c.args.width c.args.one key held.holders held.keys c.args.self.now c.self.view_is c.group-one.ensures.key in
    let other = ranked_by held.columns c.args.width c.args.other other_key held.holders held.keys c.args.self.now c.self.view_is c.group-other.ensures.key in
    let columns = c.as_slice-columns.ensures in
    c.compare_behind.ensures
    ∙ (λ j. ordering_then (order_cmp order (map (cell_held (columns j) key (c.group-one.ensures.number j)) holders) (map (cell_held (columns j) other_key (c.group-other.ensures.number j)) holders)) (key_cmp key other_key))
    ∙ sym (λ j. result_cmp order (one j) (other j))
