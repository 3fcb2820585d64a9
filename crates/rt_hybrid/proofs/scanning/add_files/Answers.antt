use Rattle.std.proofs.Common.{take, subst, sym, arith, take_all, List}
use Rattle.rt_model.specs.Aggregate.{taken}
use Rattle.rt_scan.specs.Filled.{rows_as}
use Rattle.rt_segment.specs.Segment.{SealedSegment}
use Rattle.rt_hybrid.specs.Adding.{AddsRows}
use Rattle.rt_hybrid.specs.Pushes.{IsPushed}
use Rattle.rt_hybrid.specs.Table.{rows_of_files}
use Rattle.rt_hybrid.proofs.Gaining.{adds_none, adds_same, adds_then, file_taken}
use Rattle.rt_hybrid.proofs.scanning.add_files.Goals as goal

pub loop-file-init : goal.loop-file-init
loop-file-init c = adds_none c.args.query.now c.args.groups.now

pub add_file-requires-clause-kinds : goal.add_file-requires-clause-kinds
add_file-requires-clause-kinds c =
    (subst (IsPushed c.args.schema.now) (sym c.file-item.is) (c.requires.pushed c.loop-file.file-index c.file-item.result (omega arith))).kinds

pub loop-file-preserved : goal.loop-file-preserved
loop-file-preserved c =
    let before = taken c.args.query.now (rows_of_files c.args.schema.now (take c.loop-file.file-index c.args.files.now)) in
    let more = taken c.args.query.now (rows_as c.args.schema.now c.file-item.result) in
    adds_same c.args.query.now _ _ c.args.groups.now c.add_file.new.groups
    (file_taken c.args.query.now c.args.schema.now c.args.files.now c.loop-file.file-index c.file-item.result (omega arith) c.file-item.is)
    (adds_then c.args.query.now before more c.args.groups.now c.loop-file.groups c.add_file.new.groups c.loop-file.invariant c.in_ok-add_file.ensures)

pub returns : goal.returns
returns c =
    subst (λ (fs : List SealedSegment). AddsRows c.args.query.now (taken c.args.query.now (rows_of_files c.args.schema.now fs)) c.args.groups.now c.loop-file.groups)
    (take_all c.loop-file.file-index c.args.files.now (omega (arith, c.loop-file-test.false))) c.loop-file.invariant
