use Rattle.std.proofs.Common.{arith, sym, ◌∙◌}
use Rattle.rt_agg.specs.ValueRef.{value_lent}
use Rattle.rt_agg.proofs.Walks.{key_apart, key_next, key_past, key_short}
use Rattle.rt_agg.proofs.group_key.GroupKey.compare.Goals as goal

pub returns-then-len-place : goal.returns-then-len-place
returns-then-len-place c =
    sym (key_past c.args.self.now c.args.other.now c.loop-place.place
    (omega (arith, c.loop-place-test.true, c.len-place-end.ensures)) (omega (arith, c.if-len-place.true, c.len.ensures)))
    ∙ c.loop-place.invariant

pub returns-in_default : goal.returns-in_default
returns-in_default c =
    key_apart c.args.self.now c.args.other.now c.loop-place.place (value_lent c.at.result) (value_lent c.at-in-loop-place.result) c.compare.result
    c.at.ensures c.at-in-loop-place.ensures c.compare.ensures c.in_default.not-Equal c.loop-place.invariant

pub loop-place-preserved : goal.loop-place-preserved
loop-place-preserved c =
    key_next c.args.self.now c.args.other.now c.loop-place.place (value_lent c.at.result) (value_lent c.at-in-loop-place.result)
    c.at.ensures c.at-in-loop-place.ensures (sym c.compare.ensures ∙ c.in-Equal.is) c.loop-place.invariant

pub returns-then-len : goal.returns-then-len
returns-then-len c =
    sym (key_short c.args.self.now c.args.other.now c.loop-place.place
    (omega (arith, c.loop-place-test.false, c.len-place-end.ensures))
    (omega (arith, c.loop-place.auto.place-end, c.len-place-end.ensures, c.len-2.ensures, c.len-3.ensures, c.if-len.true)))
    ∙ c.loop-place.invariant
