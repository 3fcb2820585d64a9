use Rattle.std.proofs.Common.{◌≡◌, map, take}
use Rattle.rt_model.specs.Ideal.{turned_online}
use Rattle.rt_ideal.proofs.steps.turned_online.Given as goal

abbrev pub invariant-loop-entry : goal.invariant-loop-entry
invariant-loop-entry l =
    l.after.items ≡ map (turned_online l.partition l.sequence) (take l.entry-index l.entries)
