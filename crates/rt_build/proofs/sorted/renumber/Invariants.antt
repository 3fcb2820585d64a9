use Rattle.std.proofs.Common.{◌≡◌, take}
use Rattle.rt_build.specs.Renumbered.{renumbered}
use Rattle.rt_build.proofs.sorted.renumber.Given as goal

abbrev pub invariant-loop-id : goal.invariant-loop-id
invariant-loop-id l = l.new.items ≡ renumbered l.table (take l.id-index l.ids)
