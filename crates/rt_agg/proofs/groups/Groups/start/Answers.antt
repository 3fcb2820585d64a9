use Rattle.std.proofs.Common.{◌++◌, ◌∷◌, [], List, map, ap, refl, ◌∙◌, subst, sym, slice_get}
use Rattle.std.specs.List.{Contains}
use Rattle.std.specs.Map.{keys_of}
use Rattle.rt_schema.specs.declared.value.Value.{Value}
use Rattle.rt_agg.specs.Accumulator.{Accumulator}
use Rattle.rt_agg.specs.Accumulators.{known_of}
use Rattle.rt_agg.specs.Grouped.{AwaitsOne, keys_in_order}
use Rattle.rt_agg.proofs.Apart.{lookup_none}
use Rattle.rt_agg.proofs.Awaiting.{awaits_one_more, shown}
use Rattle.rt_agg.proofs.Holding.{key_last, keys_last}
use Rattle.rt_agg.proofs.groups.Groups.start.Goals as goal

pub start-requires : goal.start-requires
start-requires c =
    lookup_none c.self.inside.table.entries c.args.key (subst (λ s. Contains (keys_in_order s) c.args.key → ⊥) (sym c.self.view_is) c.requires)

pub returns-clause-awaits : goal.returns-clause-awaits
returns-clause-awaits c =
    let held = c.self.inside in
    let table = held.table in
    let key = c.args.key in
    let of = shown held.items held.order held.limit in
    subst (λ s. AwaitsOne key s (of c.start.new.self)) c.self.view_is
    (awaits_one_more key (of table) (of c.start.new.self)
    (lookup_none table.entries key (subst (λ s. Contains (keys_in_order s) key → ⊥) (sym c.self.view_is) c.requires))
    (c.in_ok-index.ensures.entries ∙ (λ j. table.entries ++ (key, map (known_of table.columns key []) (c.self.invariant j)) ∷ []))
    c.in_ok-index.ensures.same.0 refl refl refl c.in_ok-index.ensures.apart)

pub returns-clause-index : goal.returns-clause-index
returns-clause-index c =
    let table = c.self.inside.table in
    (λ j. slice_get (keys_of (c.in_ok-index.ensures.entries j)) (c.in_ok-index.ensures.group j))
    ∙ key_last table.entries c.args.key (map (known_of table.columns c.args.key []) table.items)

pub returns-clause-keys : goal.returns-clause-keys
returns-clause-keys c =
    let table = c.self.inside.table in
    ap (λ (es : List (List Value × List Accumulator)). keys_of es) c.in_ok-index.ensures.entries
    ∙ keys_last table.entries c.args.key (map (known_of table.columns c.args.key []) table.items)
    ∙ ap (λ s. keys_in_order s ++ c.args.key ∷ []) c.self.view_is
