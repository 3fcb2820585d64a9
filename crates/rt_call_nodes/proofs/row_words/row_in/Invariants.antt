use Rattle.std.proofs.Common.{◌≡◌, map, take}
use Rattle.rt_schema.specs.Value.{kind_of}
use Rattle.rt_schema.specs.declared.column.Column.{Column}
use Rattle.rt_call_nodes.proofs.row_words.row_in.Given as goal

abbrev pub invariant-loop-column : goal.invariant-loop-column
invariant-loop-column l = map kind_of l.values ≡ map (λ (column : Column). column.kind) (take l.column-index l.columns)
