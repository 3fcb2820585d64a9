use Rattle.std.proofs.Common.{List, subst, sym}
use Rattle.std.specs.List.{IsDistinct}
use Rattle.rt_schema.specs.declared.value.Value.{Value}
use Rattle.rt_agg.specs.Grouped.{same_key}
use Rattle.rt_agg.proofs.Kept.{kept_apart}
use Rattle.rt_agg.proofs.group_keys.GroupKeys.pick.Goals as goal

pub invariant_of-result : goal.invariant_of-result
invariant_of-result c =
    subst (IsDistinct same_key) (sym c.in_ok-keys.ensures)
    (kept_apart c.args.marks.now c.as_slice.result.now (subst (λ (ks : List (List Value)). IsDistinct same_key ks) (sym c.as_slice.ensures.keys) c.as_slice.ensures.apart))

pub returns-clause-apart : goal.returns-clause-apart
returns-clause-apart c =
    subst (IsDistinct same_key) (sym c.in_ok-keys.ensures)
    (kept_apart c.args.marks.now c.as_slice.result.now (subst (λ (ks : List (List Value)). IsDistinct same_key ks) (sym c.as_slice.ensures.keys) c.as_slice.ensures.apart))
