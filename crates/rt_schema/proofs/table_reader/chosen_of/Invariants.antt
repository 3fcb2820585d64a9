use Rattle.std.proofs.Common.{◌≡◌, ◌++◌, drop}
use Rattle.std.specs.List.{filter}
use Rattle.rt_schema.specs.Schema.{names_of, is_among}
use Rattle.rt_schema.proofs.table_reader.chosen_of.Given as goal

abbrev pub invariant-loop-column : goal.invariant-loop-column
invariant-loop-column l = l.chosen ++ filter (λ name. is_among name l.asked) (names_of (drop l.column-index l.columns)) ≡ filter (λ name. is_among name l.asked) (names_of l.columns)
