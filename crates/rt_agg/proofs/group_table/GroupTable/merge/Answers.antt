use Rattle.std.proofs.Common.{◌≡◌, ◌∙◌, Some, ap, cond, length, sym, subst, slice_get}
use Rattle.std.specs.List.{IsDistinct}
use Rattle.std.specs.Map.{keys_of, lookup}
use Rattle.rt_agg.specs.Accumulators.{all_merged}
use Rattle.rt_agg.specs.Grouped.{same_key}
use Rattle.rt_agg.specs.GroupTable.{Tabled, entries_from}
use Rattle.rt_agg.proofs.Entries.{keys_are}
use Rattle.rt_agg.proofs.Tabling.{merge_known}
use Rattle.rt_agg.proofs.group_table.GroupTable.merge.Goals as goal

pub invariant_of-self : goal.invariant_of-self
invariant_of-self c =
    let held = c.self.inside in
    record { apart = c.self.invariant.apart; started = c.merge.ensures.started (length held.keys) c.self.invariant.started }

pub returns-clause-known : goal.returns-clause-known
returns-clause-known c alike k known at o others there q =
    let held = c.self.inside in
    let other = c.other.inside in
    let items = ap (λ (s : Tabled). s.items) c.self.view_is ∙ alike ∙ sym (ap (λ (s : Tabled). s.items) c.other.view_is) in
    let here = subst (λ (s : Tabled). slice_get s.entries c.args.group ≡ Some (k, known)) (sym c.self.view_is) at in
    let beside = subst (λ (s : Tabled). slice_get s.entries c.args.from ≡ Some (o, others)) (sym c.other.view_is) there in
    (λ j. lookup (same_key q) (entries_from held.columns (c.merge.ensures.merged items j) 0 held.keys))
    ∙ merge_known held.columns other.columns held.holders other.holders held.keys other.keys c.self.invariant c.other.invariant c.args.group c.args.from k known here o others beside q
    ∙ ap (λ (s : Tabled). cond (same_key k q) (Some (all_merged known others)) (lookup (same_key q) s.entries)) c.self.view_is

pub returns-clause-keys : goal.returns-clause-keys
returns-clause-keys c =
    let held = c.self.inside in
    keys_are held.columns c.merge.new.self 0 held.keys ∙ sym (keys_are held.columns held.holders 0 held.keys)
    ∙ ap (λ (s : Tabled). keys_of s.entries) c.self.view_is

pub returns-clause-same : goal.returns-clause-same
returns-clause-same c = (
  ap (λ (s : Tabled). s.columns) c.self.view_is,
  c.merge.ensures.items ∙ ap (λ (s : Tabled). s.items) c.self.view_is,
)

pub returns-clause-apart : goal.returns-clause-apart
returns-clause-apart c =
    let held = c.self.inside in
    subst (IsDistinct same_key) (sym (keys_are held.columns c.merge.new.self 0 held.keys)) c.self.invariant.apart
