use Rattle.std.proofs.Common.{◌≡◌, drop}
use Rattle.rt_model.specs.Aggregate.{value_of_key}
use Rattle.rt_agg.proofs.key_column.value_of_key.Given as goal

abbrev pub invariant-loop-place : goal.invariant-loop-place
invariant-loop-place l =
    value_of_key (drop l.place l.columns) (drop l.place l.key) l.column ≡ value_of_key l.columns l.key l.column
