use Rattle.std.proofs.Common.{◌∙◌, sym}
use Rattle.rt_hybrid.specs.Sides.{is_past}
use Rattle.rt_hybrid.specs.Table.{time_of}
use Rattle.rt_hybrid.proofs.Gaining.{counted, uncounted}
use Rattle.rt_hybrid.proofs.scanning.add_if.Goals as goal

pub returns-in_ok-add_row : goal.returns-in_ok-add_row
returns-in_ok-add_row c =
    counted c.args.query.now (λ row. is_past c.args.boundary (time_of c.args.place row)) c.args.row.now c.args.groups.now c.add_row.new.self c.requires
    c.in_ok-add_row.ensures.adds (sym c.is_counted.ensures ∙ c.if-is_counted.true)

pub returns-else-is_counted : goal.returns-else-is_counted
returns-else-is_counted c =
    uncounted c.args.query.now (λ row. is_past c.args.boundary (time_of c.args.place row)) c.args.row.now c.args.groups.now (sym c.is_counted.ensures ∙ c.if-is_counted.false)
