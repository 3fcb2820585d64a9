use Rattle.std.proofs.Common.{arith, refl}
use Rattle.std.proofs.lemmas.Option.{slice_get_read}
use Rattle.rt_scan.proofs.Leading.{held_least, lacking, lacking_least}
use Rattle.rt_scan.proofs.grouping.id_in.Goals as goal

pub returns-else-place-columns-clause-value : goal.returns-else-place-columns-clause-value
returns-else-place-columns-clause-value g c = lacking g.C.ScanColumn.values g.C.ScanColumn.value_of c.args.columns.now c.args.column.now c.args.row 0 c.if-place-columns.false

pub returns-else-place-columns-clause-least : goal.returns-else-place-columns-clause-least
returns-else-place-columns-clause-least g c = lacking_least g.C.ScanColumn.values g.C.ScanColumn.value_of c.args.columns.now c.args.column.now c.if-place-columns.false

pub returns-then-place-columns-clause-least : goal.returns-then-place-columns-clause-least
returns-then-place-columns-clause-least g c =
    held_least g.C.ScanColumn.values g.C.ScanColumn.value_of c.args.columns.now c.args.column.now c.index-columns-place.result c.id.result
    (slice_get_read c.args.columns.now _ c.args.column.now.place c.index-columns-place.result refl (omega arith) c.index-columns-place.is) c.id.ensures.least
