use Rattle.std.proofs.Common.{◌≡◌, drop}
use Rattle.rt_lists.specs.Names.{is_among}
use Rattle.rt_schema.specs.Schema.{names_of}
use Rattle.rt_call_segments.proofs.column_names.is_column.Given as goal

abbrev pub invariant-loop-column : goal.invariant-loop-column
invariant-loop-column l = is_among l.name (names_of (drop l.column-index l.columns)) ≡ is_among l.name (names_of l.columns)
