use Rattle.std.proofs.Common.{◌≡◌, take}
use Rattle.rt_agg.specs.Sharing.{cells_at}
use Rattle.rt_agg.proofs.group_cells.cells_of.Given as goal

abbrev pub invariant-loop-place : goal.invariant-loop-place
invariant-loop-place l = l.cells.items ≡ cells_at l.columns l.group.key.now l.group.number l.held (take l.place-index l.places)
