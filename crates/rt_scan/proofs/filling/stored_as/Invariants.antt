use Rattle.std.proofs.Common.{◌≡◌, drop}
use Rattle.rt_scan.specs.Filled.{stored_as}
use Rattle.rt_scan.proofs.filling.stored_as.Given as goal

-- no column before this place is the schema's
abbrev pub invariant-loop-held : goal.invariant-loop-held
invariant-loop-held l = stored_as l.column (drop l.held-index l.stored) ≡ stored_as l.column l.stored
