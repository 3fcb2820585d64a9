use Rattle.std.proofs.Common.{◌≡◌, ◌++◌, [], ap, map, refl, sym, ◌∙◌, subst}
use Rattle.std.specs.Prelude.{is_some}
use Rattle.std.specs.Map.{lookup}
use Rattle.rt_agg.specs.Accumulators.{known_of, ordering_items}
use Rattle.rt_agg.specs.Grouped.{Grouped, Merges, same_key}
use Rattle.rt_agg.specs.GroupTable.{Tabled}
use Rattle.rt_agg.specs.Merging.{merged_at, started_at}
use Rattle.rt_agg.proofs.Holding.{merges_from}
use Rattle.rt_agg.proofs.groups.Groups.merge.Goals as goal

pub returns-in-Ok-clause-merges : goal.returns-in-Ok-clause-merges
returns-in-Ok-clause-merges c =
    let table = c.index.new.self in
    let of : Tabled → Grouped = λ (t : Tabled). record { columns = t.columns; items = c.self.inside.items; order = c.self.inside.order; limit = c.self.inside.limit; groups = t.entries } in
    let others = c.other.inside.table in
    let old : Grouped = record { columns = table.columns; items = c.self.inside.items; order = c.self.inside.order; limit = c.self.inside.limit; groups = table.entries } in
    let new : Grouped = record { columns = c.merge_each.new.table.columns; items = c.self.inside.items; order = c.self.inside.order; limit = c.self.inside.limit; groups = c.merge_each.new.table.entries } in
    let other : Grouped = record { columns = others.columns; items = c.other.inside.items; order = c.other.inside.order; limit = c.other.inside.limit; groups = others.entries } in
    subst (λ s. Merges s c.args.other.now new) (ap of c.index.ensures ∙ c.self.view_is)
    (subst (λ o. Merges old o new) c.other.view_is
    (λ query rows more held beside few.
    let items : table.items ≡ query.items ++ ordering_items query.order =
    ap (λ (t : Tabled). t.items) c.index.ensures ∙ c.self.invariant ∙ (λ j. held.items j ++ ordering_items (held.order j)) in
    let alike = c.start_missing.ensures.same.1 ∙ items ∙ sym (c.other.invariant ∙ (λ j. beside.items j ++ ordering_items (beside.order j))) in
    merges_from old other new (c.merge_each.ensures.same.0 ∙ c.start_missing.ensures.same.0) refl refl refl c.merge_each.ensures.apart
    (λ q. c.merge_each.ensures.known alike q
    ∙ ap (λ a. merged_at a (lookup (same_key q) others.entries))
    (c.in-Ok.ensures.known q
    ∙ (λ j. started_at (map (known_of table.columns q []) ((ap (λ (t : Tabled). t.items) c.index.ensures ∙ c.self.invariant) j)) (lookup (same_key q) table.entries) (is_some (lookup (same_key q) others.entries)))))
    query rows more held beside few))
