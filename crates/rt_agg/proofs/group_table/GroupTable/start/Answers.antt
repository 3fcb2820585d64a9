use Rattle.std.proofs.Common.{◌≡◌, ◌∷◌, ◌∙◌, ◌++◌, [], List, false, ap, length, map, sym, subst}
use Rattle.std.specs.List.{IsDistinct, list_any}
use Rattle.std.specs.Map.{lookup}
use Rattle.rt_schema.specs.declared.value.Value.{Value}
use Rattle.rt_agg.specs.Accumulators.{known_of}
use Rattle.rt_agg.specs.Grouped.{same_key}
use Rattle.rt_agg.specs.GroupTable.{IsTable, StartsSome, Tabled, entries_from}
use Rattle.rt_agg.specs.ResultHolder.{started_in}
use Rattle.rt_agg.proofs.Apart.{any_none, on_err_always}
use Rattle.rt_agg.proofs.Entries.{entries_long, keys_are}
use Rattle.rt_agg.proofs.Tabling.{more_entries, more_table, some_table, some_view, table_of}
use Rattle.rt_agg.proofs.group_table.GroupTable.start.Goals as goal

pub push-requires : goal.push-requires
push-requires c =
    let held = c.self.inside in
    subst (λ (ks : List (List Value)). list_any (same_key c.args.key) ks ≡ false) (keys_are held.columns held.holders 0 held.keys)
    (any_none (entries_from held.columns held.holders 0 held.keys) c.args.key
    (ap (λ (s : Tabled). lookup (same_key c.args.key) s.entries) c.self.view_is ∙ c.requires))

pub invariant_of-self : goal.invariant_of-self
invariant_of-self c =
    let held = c.self.inside in
    some_table held.columns held.holders held.keys c.self.invariant c.start.new.self
    (subst (λ n. StartsSome n held.holders c.start.new.self) c.len-next.ensures.len c.start.ensures.some)

pub returns-in_err-start-clause-err : goal.returns-in_err-start-clause-err
returns-in_err-start-clause-err c =
    let held = c.self.inside in
    on_err_always _
    (some_view held.columns held.holders held.keys c.self.invariant c.start.new.self
    (subst (λ n. StartsSome n held.holders c.start.new.self) c.len-next.ensures.len c.start.ensures.some)
    ∙ c.self.view_is)

pub invariant_of-self-in_err-push : goal.invariant_of-self-in_err-push
invariant_of-self-in_err-push c =
    let held = c.self.inside in
    subst (λ (ks : List (List Value)). IsTable c.start.new.self ks) (sym c.in_err-push.ensures.err)
    (some_table held.columns held.holders held.keys c.self.invariant c.start.new.self
    (subst (λ n. StartsSome n held.holders c.start.new.self) c.len-next.ensures.len c.start.ensures.some))

pub returns-in_err-push-clause-err : goal.returns-in_err-push-clause-err
returns-in_err-push-clause-err c =
    let held = c.self.inside in
    on_err_always _
    (ap (table_of held.columns c.start.new.self) c.in_err-push.ensures.err
    ∙ some_view held.columns held.holders held.keys c.self.invariant c.start.new.self
    (subst (λ n. StartsSome n held.holders c.start.new.self) c.len-next.ensures.len c.start.ensures.some)
    ∙ c.self.view_is)

pub invariant_of-self-2 : goal.invariant_of-self-2
invariant_of-self-2 c =
    let held = c.self.inside in
    subst (λ (ks : List (List Value)). IsTable c.start.new.self ks) (sym c.in_ok-push.ensures.keys)
    (more_table held.columns held.holders held.keys c.self.invariant c.start.new.self
    (subst (λ n. StartsSome n held.holders c.start.new.self) c.len-next.ensures.len c.start.ensures.some)
    (subst (λ n. c.start.new.self ≡ map (started_in n) held.holders) c.len-next.ensures.len c.in_ok-start.ensures.started)
    c.args.key (subst (IsDistinct same_key) c.in_ok-push.ensures.keys c.push.ensures.apart))

pub returns-clause-group : goal.returns-clause-group
returns-clause-group c =
    let held = c.self.inside in
    c.len-next.ensures.len ∙ sym (entries_long held.columns held.holders 0 held.keys) ∙ ap (λ (s : Tabled). length s.entries) c.self.view_is

pub returns-clause-entries : goal.returns-clause-entries
returns-clause-entries c =
    let held = c.self.inside in
    ap (entries_from held.columns c.start.new.self 0) c.in_ok-push.ensures.keys
    ∙ more_entries held.columns held.holders held.keys c.self.invariant c.start.new.self
    (subst (λ n. StartsSome n held.holders c.start.new.self) c.len-next.ensures.len c.start.ensures.some)
    (subst (λ n. c.start.new.self ≡ map (started_in n) held.holders) c.len-next.ensures.len c.in_ok-start.ensures.started)
    c.args.key
    ∙ ap (λ (s : Tabled). s.entries ++ (c.args.key, map (known_of s.columns c.args.key []) s.items) ∷ []) c.self.view_is

pub returns-clause-same : goal.returns-clause-same
returns-clause-same c =
    let held = c.self.inside in
    let view = some_view held.columns held.holders held.keys c.self.invariant c.start.new.self
    (subst (λ n. StartsSome n held.holders c.start.new.self) c.len-next.ensures.len c.start.ensures.some) in (
      ap (λ (s : Tabled). s.columns) c.self.view_is,
      ap (λ (s : Tabled). s.items) view ∙ ap (λ (s : Tabled). s.items) c.self.view_is,
    )

pub returns-clause-apart : goal.returns-clause-apart
returns-clause-apart c =
    subst (IsDistinct same_key) (sym (keys_are c.self.inside.columns c.start.new.self 0 c.push.new.self)) c.push.ensures.apart
