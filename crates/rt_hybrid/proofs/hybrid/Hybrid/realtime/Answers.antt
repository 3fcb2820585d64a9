use Rattle.std.proofs.Common.{◌≡◌, filter, Option, ap, subst, arith, ℕ, ℤ}
use Rattle.rt_schema.specs.declared.row.Row.{Row}
use Rattle.rt_model.specs.Aggregate.{taken}
use Rattle.rt_hybrid.specs.Adding.{AddsRows}
use Rattle.rt_hybrid.specs.Sides.{is_past, realtime_side}
use Rattle.rt_hybrid.specs.Table.{OfflineTable, boundary_of, time_of}
use Rattle.rt_hybrid.proofs.Offline.{all_added, all_fit, side_few}
use Rattle.rt_hybrid.proofs.hybrid.Hybrid.realtime.Goals as goal

pub add_past-requires : goal.add_past-requires
add_past-requires c = all_fit c.args.self.now.schema c.args.query.now c.args.rows.now c.requires.query c.requires.rows

pub returns : goal.returns
returns c =
    let time : c.self.inside.time ≡ c.args.self.now.time = ap (λ (t : OfflineTable). t.time) c.self.view_is in
    all_added c.args.query.now (taken c.args.query.now (realtime_side c.args.self.now c.args.rows.now)) c.in_ok-groups.groups c.add_past.new.groups (c.in_ok-groups.ensures {u = tt})
    (subst (λ (b : Option ℤ). AddsRows c.args.query.now (taken c.args.query.now (filter (λ (row : Row). is_past b (time_of c.args.self.now.time row)) c.args.rows.now)) c.in_ok-groups.groups c.add_past.new.groups) c.boundary.ensures.boundary
    (subst (λ (p : ℕ). AddsRows c.args.query.now (taken c.args.query.now (filter (λ (row : Row). is_past c.boundary.result (time_of p row)) c.args.rows.now)) c.in_ok-groups.groups c.add_past.new.groups) time c.in_ok-add_past.ensures))
    (omega (arith, c.requires.few, side_few c.args.query.now (λ (row : Row). is_past (boundary_of c.args.self.now) (time_of c.args.self.now.time row)) c.args.rows.now))
