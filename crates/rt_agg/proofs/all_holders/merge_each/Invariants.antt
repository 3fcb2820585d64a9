use Rattle.std.proofs.Common.{◌≡◌, ◌++◌, take, drop}
use Rattle.rt_agg.specs.GroupTable.{all_merged_in}
use Rattle.rt_agg.proofs.all_holders.merge_each.Given as goal

abbrev pub invariant-loop-i : goal.invariant-loop-i
invariant-loop-i l =
    take l.i l.holders ++ all_merged_in l.group l.from (drop l.i l.holders) (drop l.i l.others) ≡ all_merged_in l.group l.from l.fn.holders l.others
