use Rattle.std.proofs.Common.{◌≡◌, drop}
use Rattle.std.specs.List.{list_all}
use Rattle.rt_hybrid.specs.Batch.{is_short}
use Rattle.rt_hybrid.proofs.rows.are_short.Given as goal

abbrev pub invariant-loop-value : goal.invariant-loop-value
invariant-loop-value l = list_all is_short (drop l.value-index l.values) ≡ list_all is_short l.values
