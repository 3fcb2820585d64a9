use Rattle.std.proofs.Common.{◌≡◌, drop, map}
use Rattle.rt_schema.specs.Schema.{is_among}
use Rattle.rt_segment.proofs.column_reader.has_name.Given as goal

abbrev pub invariant-loop-column : goal.invariant-loop-column
invariant-loop-column l = is_among l.name (map (λ column. column.name) (drop l.column-index l.columns)) ≡ is_among l.name (map (λ column. column.name) l.columns)
