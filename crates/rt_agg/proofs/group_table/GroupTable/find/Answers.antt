use Rattle.std.proofs.Common.{◌≡◌, ◌∙◌, List, Some, None, false, ap, sym, subst, slice_get}
use Rattle.std.specs.Prelude.{IfSome}
use Rattle.std.specs.List.{IsDistinct, list_any}
use Rattle.std.specs.Map.{keys_of, lookup}
use Rattle.rt_schema.specs.declared.value.Value.{Value}
use Rattle.rt_agg.specs.Grouped.{same_key}
use Rattle.rt_agg.specs.GroupTable.{Tabled}
use Rattle.rt_agg.proofs.Apart.{none_weaker}
use Rattle.rt_agg.proofs.Entries.{keys_are, none_there}
use Rattle.rt_agg.proofs.group_table.GroupTable.find.Goals as goal

pub returns-clause-some : goal.returns-clause-some
returns-clause-some c =
    let held = c.self.inside in
    subst (λ (ks : List (List Value)). IfSome c.find.result (λ group. slice_get ks group ≡ Some c.args.key.now))
    (sym (keys_are held.columns held.holders 0 held.keys) ∙ ap (λ (s : Tabled). keys_of s.entries) c.self.view_is) c.find.ensures.some

pub returns-clause-none : goal.returns-clause-none
returns-clause-none c =
    let held = c.self.inside in
    none_weaker c.find.result (list_any (same_key c.args.key.now) held.keys ≡ false) (lookup (same_key c.args.key.now) c.args.self.now.entries ≡ None)
    (λ none. ap (λ (s : Tabled). lookup (same_key c.args.key.now) s.entries) (sym c.self.view_is) ∙ none_there held.columns held.holders 0 (same_key c.args.key.now) held.keys none)
    c.find.ensures.none

pub returns-clause-apart : goal.returns-clause-apart
returns-clause-apart c =
    let held = c.self.inside in
    subst (λ (s : Tabled). IsDistinct same_key (keys_of s.entries)) c.self.view_is
    (subst (IsDistinct same_key) (sym (keys_are held.columns held.holders 0 held.keys)) c.self.invariant.apart)
