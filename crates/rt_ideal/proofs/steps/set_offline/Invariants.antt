use Rattle.std.proofs.Common.{◌≡◌, map, take}
use Rattle.rt_model.specs.Ideal.{turned_offline}
use Rattle.rt_ideal.proofs.steps.set_offline.Given as goal

abbrev pub invariant-loop-entry : goal.invariant-loop-entry
invariant-loop-entry l =
    l.after.items ≡ map (turned_offline l.partition l.sequence l.instance) (take l.entry-index l.entries)
