use Rattle.std.proofs.Common.{◌≡◌, drop}
use Rattle.rt_model.specs.Ideal.{mode_of}
use Rattle.rt_ideal.proofs.lookup.mode.Given as goal

-- the entries so far are none of the instance's
abbrev pub invariant-loop-entry : goal.invariant-loop-entry
invariant-loop-entry l =
    mode_of l.state.entries l.partition l.sequence l.instance ≡ mode_of (drop l.entry-index l.entry-items) l.partition l.sequence l.instance
