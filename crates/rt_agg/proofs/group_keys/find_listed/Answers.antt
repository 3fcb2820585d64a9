use Rattle.std.proofs.Common.{◌≡◌, ◌∙◌, Some, true, ap, arith, refl, sym}
use Rattle.std.proofs.lemmas.Option.{slice_get_read}
use Rattle.std.specs.Ordering.{is_eq}
use Rattle.rt_agg.specs.Grouped.{same_key}
use Rattle.rt_agg.proofs.Holding.{same_is}
use Rattle.rt_agg.proofs.group_keys.find_listed.Goals as goal

pub returns-then-is_eq-clause-some : goal.returns-then-is_eq-clause-some
returns-then-is_eq-clause-some c =
    let key = c.args.key.now in
    let other = c.index-keys-group.result in
    let same : same_key key other ≡ true =
    ap is_eq (sym c.compare.ensures) ∙ sym c.is_eq.ensures ∙ c.if-is_eq.true in
    slice_get_read c.args.keys.now _ c.loop-group.group other refl (omega arith) c.index-keys-group.is ∙ ap Some (sym (same_is key other same))
