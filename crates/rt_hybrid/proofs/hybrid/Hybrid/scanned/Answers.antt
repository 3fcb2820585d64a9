use Rattle.std.proofs.Common.{◌≤◌, List, length, subst, arith}
use Rattle.rt_segment.specs.Segment.{SealedSegment}
use Rattle.rt_model.specs.Aggregate.{taken}
use Rattle.rt_agg.specs.Grouped.{Holds}
use Rattle.rt_hybrid.specs.Adding.{AddsRows}
use Rattle.rt_hybrid.specs.Table.{OfflineTable, offline_rows, rows_of_files}
use Rattle.rt_hybrid.proofs.Offline.{all_added, few_rows, taken_few}
use Rattle.rt_hybrid.proofs.hybrid.Hybrid.scanned.Goals as goal

pub returns-clause-groups : goal.returns-clause-groups
returns-clause-groups c =
    let few = few_rows _ _ c.self.invariant in
    subst (λ (t : OfflineTable). Holds c.args.query.now (taken c.args.query.now (offline_rows t)) c.add_files.new.groups) c.self.view_is
    (all_added c.args.query.now (taken c.args.query.now (rows_of_files c.self.inside.schema c.self.inside.files)) c.in_ok-groups.groups c.add_files.new.groups (c.in_ok-groups.ensures {u = tt})
    (subst (λ (fs : List SealedSegment). AddsRows c.args.query.now (taken c.args.query.now (rows_of_files c.self.inside.schema fs)) c.in_ok-groups.groups c.add_files.new.groups) c.as_slice.ensures c.in_ok-add_files.ensures)
    (omega (arith, few, taken_few c.args.query.now (rows_of_files c.self.inside.schema c.self.inside.files))))

pub returns-clause-few : goal.returns-clause-few
returns-clause-few c = subst (λ (t : OfflineTable). length (offline_rows t) ≤ 42949672950000) c.self.view_is (few_rows _ _ c.self.invariant)
