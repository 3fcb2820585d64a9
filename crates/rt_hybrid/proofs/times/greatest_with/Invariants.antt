use Rattle.std.proofs.Common.{◌≡◌, fold, map, take}
use Rattle.serde_json.specs.View.{view}
use Rattle.rt_hybrid.specs.Cells.{time_in}
use Rattle.rt_hybrid.specs.Table.{greater_of}
use Rattle.rt_hybrid.proofs.times.greatest_with.Given as goal

abbrev pub invariant-loop-item : goal.invariant-loop-item
invariant-loop-item l = l.greatest ≡ fold greater_of l.fn.greatest (map (time_in l.column) (map view (take l.item-index l.items)))
