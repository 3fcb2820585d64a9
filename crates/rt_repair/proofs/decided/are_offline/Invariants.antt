use Rattle.std.proofs.Common.{◌≡◌, drop}
use Rattle.rt_model.specs.Repair.{are_offline}
use Rattle.rt_repair.proofs.decided.are_offline.Given as goal

-- the entries so far are other segments', or OFFLINE
abbrev pub invariant-loop-entry : goal.invariant-loop-entry
invariant-loop-entry l =
    are_offline l.entries l.partition l.sequence ≡ are_offline (drop l.entry-index l.entries) l.partition l.sequence
