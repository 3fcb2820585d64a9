use Rattle.std.proofs.Common.{◌≡◌, false, take}
use Rattle.std.specs.List.{list_any}
use Rattle.rt_agg.specs.Grouped.{same_key}
use Rattle.rt_agg.proofs.group_keys.find_listed.Given as goal

-- the key is not among those before this one
abbrev pub invariant-loop-group : goal.invariant-loop-group
invariant-loop-group l = list_any (same_key l.key) (take l.group l.keys) ≡ false
