use Rattle.std.proofs.Common.{take}
use Rattle.rt_model.specs.Aggregate.{taken}
use Rattle.rt_hybrid.specs.Adding.{AddsRows}
use Rattle.rt_hybrid.specs.Table.{rows_of_files}
use Rattle.rt_hybrid.proofs.scanning.add_files.Given as goal

abbrev pub invariant-loop-file : goal.invariant-loop-file
invariant-loop-file l = AddsRows l.query (taken l.query (rows_of_files l.schema (take l.file-index l.files))) l.fn.groups l.groups
