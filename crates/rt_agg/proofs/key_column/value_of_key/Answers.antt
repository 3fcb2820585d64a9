use Rattle.std.proofs.Common.{arith}
use Rattle.std.proofs.lemmas.Bool.{eq-eqb, ne_eqb}
use Rattle.rt_agg.specs.ValueRef.{value_lent}
use Rattle.rt_agg.proofs.Walks.{value_found, value_next}
use Rattle.rt_agg.proofs.key_column.value_of_key.Goals as goal

pub returns-then-group-column : goal.returns-then-group-column
returns-then-group-column c =
    value_found c.args.columns.now c.args.key.now c.loop-place.place c.index-columns-place.result (value_lent c.at.result) c.args.column.now
    (omega arith) c.index-columns-place.is c.at.ensures (eq-eqb _ _ c.if-group-column.true) c.loop-place.invariant

pub loop-place-preserved : goal.loop-place-preserved
loop-place-preserved c =
    value_next c.args.columns.now c.args.key.now c.loop-place.place c.index-columns-place.result c.args.column.now
    (omega arith) c.index-columns-place.is (omega (arith, c.if-len-place.false, c.len.ensures)) (ne_eqb _ _ c.if-group-column.false) c.loop-place.invariant
