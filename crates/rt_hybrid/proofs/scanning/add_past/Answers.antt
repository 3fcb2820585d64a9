use Rattle.std.proofs.Common.{[], ◌∷◌, take, filter, subst, sym, arith, take_all, List, Bool}
use Rattle.rt_schema.specs.declared.row.Row.{Row}
use Rattle.rt_agg.specs.Grouped.{Fits}
use Rattle.rt_model.specs.Aggregate.{taken}
use Rattle.rt_hybrid.specs.Adding.{AddsRows}
use Rattle.rt_hybrid.specs.Sides.{is_past}
use Rattle.rt_hybrid.specs.Table.{time_of}
use Rattle.rt_hybrid.proofs.Gaining.{adds_none, adds_same, adds_then, row_taken}
use Rattle.rt_hybrid.proofs.scanning.add_past.Goals as goal

pub loop-row-init : goal.loop-row-init
loop-row-init c = adds_none c.args.query.now c.args.groups.now

pub add_if-requires : goal.add_if-requires
add_if-requires c = subst (Fits c.args.query.now) (sym c.row-item.is) (c.requires c.loop-row.row-index c.row-item.result (omega arith))

pub loop-row-preserved : goal.loop-row-preserved
loop-row-preserved c =
    let p : Row → Bool = λ row. is_past c.args.boundary (time_of c.args.place row) in
    let before = taken c.args.query.now (filter p (take c.loop-row.row-index c.args.rows.now)) in
    let more = taken c.args.query.now (filter p (c.row-item.result ∷ [])) in
    adds_same c.args.query.now _ _ c.args.groups.now c.add_if.new.groups
    (row_taken c.args.query.now p c.args.rows.now c.loop-row.row-index c.row-item.result (omega arith) c.row-item.is)
    (adds_then c.args.query.now before more c.args.groups.now c.loop-row.groups c.add_if.new.groups c.loop-row.invariant c.in_ok-add_if.ensures)

pub returns : goal.returns
returns c =
    subst (λ (rs : List Row). AddsRows c.args.query.now (taken c.args.query.now (filter (λ row. is_past c.args.boundary (time_of c.args.place row)) rs)) c.args.groups.now c.loop-row.groups)
    (take_all c.loop-row.row-index c.args.rows.now (omega (arith, c.loop-row-test.false))) c.loop-row.invariant
