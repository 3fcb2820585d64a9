use Rattle.std.proofs.Common.{◌≡◌, List, arith, false, refl, subst, sym, take}
use Rattle.std.specs.List.{list_any}
use Rattle.std.proofs.lemmas.Option.{slice_get_read}
use Rattle.rt_schema.specs.declared.value.Value.{Value}
use Rattle.rt_agg.specs.Grouped.{same_key}
use Rattle.rt_agg.proofs.Apart.{none_before}
use Rattle.rt_agg.proofs.group_keys.indexed.Goals as goal

pub push_indexed-requires : goal.push_indexed-requires
push_indexed-requires c =
    let keys = c.args.keys.now in
    let i = c.loop-key.key-index in
    let key = c.key-item.result in
    subst (λ (ks : List (List Value)). list_any (same_key c.in_ok-copied.field-0) ks ≡ false) (sym c.loop-key.invariant)
    (subst (λ (k : List Value). list_any (same_key k) (take i keys) ≡ false) (sym (c.in_ok-copied.ensures {u = tt}))
    (none_before keys i key c.requires (slice_get_read keys _ i key refl (omega arith) c.key-item.is)))
