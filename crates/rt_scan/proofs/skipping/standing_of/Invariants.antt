use Rattle.std.proofs.Common.{◌≡◌, drop}
use Rattle.rt_scan.specs.Skips.{standing_of}
use Rattle.rt_scan.proofs.skipping.standing_of.Given as goal

-- no column before this place has the name
abbrev pub invariant-loop-column : goal.invariant-loop-column
invariant-loop-column l = standing_of (drop l.column-index l.columns) l.name l.literal ≡ standing_of l.columns l.name l.literal
