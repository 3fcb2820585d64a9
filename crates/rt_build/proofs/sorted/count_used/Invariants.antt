use Rattle.std.proofs.Common.{◌≡◌, take}
use Rattle.rt_build.specs.Renumbered.{next_id}
use Rattle.rt_build.proofs.sorted.count_used.Given as goal

abbrev pub invariant-loop-id : goal.invariant-loop-id
invariant-loop-id l = l.next ≡ next_id (take l.id-index l.ids)
