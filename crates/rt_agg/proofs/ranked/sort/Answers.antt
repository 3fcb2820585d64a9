use Rattle.std.proofs.Common.{rules}
use Rattle.std.proofs.lemmas.Cmp.{on_total}
use Rattle.std.proofs.lemmas.Fn.{always_returns_same}
use Rattle.std.specs.Ordering.{is_lt}
use Rattle.rt_model.specs.Aggregate.{result_cmp}
use Rattle.rt_agg.specs.Ranking.{ranked_within}
use Rattle.rt_agg.proofs.Orders.{result_total, weak_total}
use Rattle.rt_agg.proofs.ranked.sort.Goals as goal

pub returns-clause-sorted : goal.returns-clause-sorted
returns-clause-sorted c =
    let ranked = ranked_within c.args.width c.args.table.now.entries in
    c.sort_unstable_by.ensures.sorted (λ a b. is_lt (result_cmp c.args.order.now (ranked a) (ranked b))) (weak_total (on_total ranked (result_total c.args.order.now)))
    (always_returns_same _ _ _ (λ a r f' k. search rules))
