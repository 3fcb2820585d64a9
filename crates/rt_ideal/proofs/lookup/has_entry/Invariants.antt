use Rattle.std.proofs.Common.{◌≡◌, drop}
use Rattle.rt_model.specs.Ideal.{has_entry}
use Rattle.rt_ideal.proofs.lookup.has_entry.Given as goal

-- the entries so far are none of the segment's
abbrev pub invariant-loop-entry : goal.invariant-loop-entry
invariant-loop-entry l =
    has_entry l.entries l.partition l.sequence ≡ has_entry (drop l.entry-index l.entries) l.partition l.sequence
