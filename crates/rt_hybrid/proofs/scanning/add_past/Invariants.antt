use Rattle.std.proofs.Common.{filter, take}
use Rattle.rt_schema.specs.declared.row.Row.{Row}
use Rattle.rt_model.specs.Aggregate.{taken}
use Rattle.rt_hybrid.specs.Adding.{AddsRows}
use Rattle.rt_hybrid.specs.Sides.{is_past}
use Rattle.rt_hybrid.specs.Table.{time_of}
use Rattle.rt_hybrid.proofs.scanning.add_past.Given as goal

abbrev pub invariant-loop-row : goal.invariant-loop-row
invariant-loop-row l = AddsRows l.query (taken l.query (filter (λ (row : Row). is_past l.boundary (time_of l.place row)) (take l.row-index l.rows))) l.fn.groups l.groups
