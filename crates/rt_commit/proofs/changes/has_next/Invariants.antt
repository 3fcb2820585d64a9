use Rattle.std.proofs.Common.{◌≡◌, drop}
use Rattle.rt_model.specs.Ideal.{has_entry, next_sequence}
use Rattle.rt_commit.proofs.changes.has_next.Given as goal

-- the entries so far are none of the next segment's
abbrev pub invariant-loop-entry : goal.invariant-loop-entry
invariant-loop-entry l =
    has_entry l.entries l.partition (next_sequence l.sequence)
    ≡ has_entry (drop l.entry-index l.entries) l.partition (next_sequence l.sequence)
