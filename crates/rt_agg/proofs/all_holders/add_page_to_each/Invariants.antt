use Rattle.std.proofs.Common.{◌≡◌, map, take, drop, ◌++◌}
use Rattle.rt_agg.specs.ResultHolder.{with_page_in}
use Rattle.rt_agg.proofs.all_holders.add_page_to_each.Given as goal

abbrev pub invariant-loop-holder : goal.invariant-loop-holder
invariant-loop-holder g l =
    l.holders ≡ map (with_page_in (g.R.ReadTable.row_of l.table) l.page) (take l.holder-index l.initial.holders) ++ drop l.holder-index l.initial.holders
