use Rattle.std.proofs.Common.{◌≡◌, filter, map, take}
use Rattle.serde_json.specs.View.{view}
use Rattle.rt_hybrid.specs.Batch.{is_named}
use Rattle.rt_hybrid.proofs.reading.columns_named.Given as goal

abbrev pub invariant-loop-column : goal.invariant-loop-column
invariant-loop-column l = l.named ≡ filter (is_named (map view l.items)) (take l.column-index l.columns)
