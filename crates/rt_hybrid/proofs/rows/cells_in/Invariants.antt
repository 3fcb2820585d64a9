use Rattle.std.proofs.Common.{◌≡◌, ◌++◌, option_map, drop}
use Rattle.serde_json.specs.View.{view}
use Rattle.rt_hybrid.specs.Cells.{cells_in}
use Rattle.rt_hybrid.proofs.rows.cells_in.Given as goal

abbrev pub invariant-loop-column : goal.invariant-loop-column
invariant-loop-column l = cells_in (view l.json) l.columns ≡ option_map (λ later. l.values ++ later) (cells_in (view l.json) (drop l.column-index l.columns))
