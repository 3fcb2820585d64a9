use Rattle.std.proofs.Common.{◌≤◌, List, length, ap, subst, sym}
use Rattle.rt_schema.specs.declared.row.Row.{Row}
use Rattle.rt_model.specs.Aggregate.{taken}
use Rattle.rt_agg.specs.Grouped.{Holds}
use Rattle.rt_hybrid.specs.Table.{OfflineTable, offline_rows}
use Rattle.rt_hybrid.proofs.Offline.{few_rows, none_before}
use Rattle.rt_hybrid.proofs.hybrid.Hybrid.no_groups.Goals as goal

pub returns-clause-groups : goal.returns-clause-groups
returns-clause-groups c =
    subst (λ (rows : List Row). Holds c.args.query.now rows c.in_ok-groups.groups) (sym (ap (taken c.args.query.now) (none_before c.args.self.now c.requires))) (c.in_ok-groups.ensures {u = tt})

pub returns-clause-few : goal.returns-clause-few
returns-clause-few c = subst (λ (t : OfflineTable). length (offline_rows t) ≤ 42949672950000) c.self.view_is (few_rows _ _ c.self.invariant)
