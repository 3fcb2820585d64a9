use Rattle.std.proofs.Common.{◌≡◌, ◌++◌, true, option_map, drop}
use Rattle.serde_json.specs.View.{members_view}
use Rattle.rt_schema.specs.Schema.{names_of, are_distinct}
use Rattle.rt_schema.specs.Row.{cells_of}
use Rattle.rt_schema.proofs.row_reader.cells.Given as goal

abbrev pub invariant-loop-column : goal.invariant-loop-column
invariant-loop-column l = record {
  distinct : are_distinct (names_of (drop l.column-index l.columns)) ≡ true;
  rest : cells_of l.fn.columns (members_view l.fn.members.entries) ≡ option_map (λ vs. l.values ++ vs) (cells_of (drop l.column-index l.columns) (members_view l.members.entries));
}
