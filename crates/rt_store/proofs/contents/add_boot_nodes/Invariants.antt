use Rattle.std.proofs.Common.{◌≡◌}
use Rattle.rt_model.specs.Starting.{starting_boots}
use Rattle.rt_store.proofs.contents.add_boot_nodes.Given as goal

-- the boot nodes so far
abbrev pub invariant-loop-instance : goal.invariant-loop-instance
invariant-loop-instance l = l.store ≡ record l.initial.store { writes = starting_boots l.instance }
