use Rattle.std.proofs.Common.{◌≡◌, drop}
use Rattle.rt_views.specs.Plans.{first_of, rows_from}
use Rattle.rt_views.proofs.serving.first_rows.Given as goal

abbrev pub invariant-loop-instance : goal.invariant-loop-instance
invariant-loop-instance l = first_of (rows_from l.world.state l.piece) (drop l.instance-index l.assigned) ≡ first_of (rows_from l.world.state l.piece) l.assigned
