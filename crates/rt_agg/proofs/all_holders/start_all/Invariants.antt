use Rattle.std.proofs.Common.{◌≡◌, ◌++◌, drop, map, take}
use Rattle.rt_agg.specs.ResultHolder.{started_in}
use Rattle.rt_agg.proofs.all_holders.start_all.Given as goal

-- the holders before this one have started the group
abbrev pub invariant-loop-i : goal.invariant-loop-i
invariant-loop-i l = l.holders ≡ map (started_in l.group) (take l.i l.initial.holders) ++ drop l.i l.initial.holders
