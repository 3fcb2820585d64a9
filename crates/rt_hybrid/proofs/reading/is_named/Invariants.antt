use Rattle.std.proofs.Common.{◌≡◌, map, drop}
use Rattle.serde_json.specs.View.{view}
use Rattle.rt_hybrid.specs.Batch.{is_named}
use Rattle.rt_hybrid.proofs.reading.is_named.Given as goal

abbrev pub invariant-loop-item : goal.invariant-loop-item
invariant-loop-item l = is_named (map view (drop l.item-index l.items)) l.column ≡ is_named (map view l.items) l.column
