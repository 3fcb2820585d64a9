use Rattle.std.proofs.Common.{◌≡◌, drop}
use Rattle.rt_views.specs.Plans.{first_of}
use Rattle.rt_views.specs.Views.{all_from}
use Rattle.rt_views.proofs.serving.first_all.Given as goal

abbrev pub invariant-loop-instance : goal.invariant-loop-instance
invariant-loop-instance l = first_of (all_from l.world.state l.pieces) (drop l.instance-index l.assigned) ≡ first_of (all_from l.world.state l.pieces) l.assigned
