use Rattle.std.proofs.Common.{◌∙◌, List, ap, take, sym, subst}
use Rattle.std.specs.List.{IsDistinct}
use Rattle.rt_schema.specs.declared.value.Value.{Value}
use Rattle.rt_agg.specs.Grouped.{same_key}
use Rattle.rt_agg.specs.GroupTable.{IsTable, Tabled, entries_from}
use Rattle.rt_agg.proofs.Entries.{entries_first}
use Rattle.rt_agg.proofs.Tabling.{take_table}
use Rattle.rt_agg.proofs.group_table.GroupTable.truncate.Goals as goal

pub invariant_of-self : goal.invariant_of-self
invariant_of-self c =
    let held = c.self.inside in
    subst (λ (ks : List (List Value)). IsTable held.holders ks) (sym c.truncate.ensures.keys)
    (take_table held.columns held.holders held.keys c.args.count c.self.invariant
    (subst (λ (ks : List (List Value)). IsDistinct same_key ks) c.truncate.ensures.keys c.truncate.ensures.apart))

pub returns-clause-entries : goal.returns-clause-entries
returns-clause-entries c =
    let held = c.self.inside in
    ap (entries_from held.columns held.holders 0) c.truncate.ensures.keys ∙ entries_first held.columns held.holders 0 c.args.count held.keys
    ∙ ap (λ (s : Tabled). take c.args.count s.entries) c.self.view_is

pub returns-clause-same : goal.returns-clause-same
returns-clause-same c = (ap (λ (s : Tabled). s.columns) c.self.view_is, ap (λ (s : Tabled). s.items) c.self.view_is)
