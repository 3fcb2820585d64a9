use Rattle.std.proofs.Common.{◌≡◌, ◌++◌, map, option_map, drop}
use Rattle.serde_json.specs.View.{view}
use Rattle.rt_hybrid.specs.Batch.{rows_in}
use Rattle.rt_hybrid.proofs.rows.rows_in.Given as goal

abbrev pub invariant-loop-item : goal.invariant-loop-item
invariant-loop-item l = rows_in l.columns (map view l.items) ≡ option_map (λ later. l.rows ++ later) (rows_in l.columns (map view (drop l.item-index l.items)))
