use Rattle.std.proofs.Common.{List, ℕ, ◌∙◌, ap, sym, subst, Some}
use Rattle.std.specs.List.{Contains}
use Rattle.rt_schema.specs.declared.value.Value.{Value}
use Rattle.rt_model.specs.Aggregate.{key_of}
use Rattle.rt_agg.specs.Grouped.{keys_in_order}
use Rattle.rt_agg.proofs.Awaiting.{awaits_one_there}
use Rattle.rt_seek.specs.Table.{row_at}
use Rattle.rt_scan.specs.GroupIds.{IsAbsent}
use Rattle.rt_scan.specs.Grouping.{AreLeast, key_by}
use Rattle.rt_scan.proofs.Leading.{leads_more}
use Rattle.rt_scan.proofs.grouping.place_by_ids.Goals as goal

pub returns-in-Some-clause-awaits : goal.returns-in-Some-clause-awaits
returns-in-Some-clause-awaits g c =
    awaits_one_there (key_of c.args.by.now (row_at g.C.ScanColumn.values c.args.columns.now c.args.row)) c.args.groups.now c.in-Some.index
    (c.requires.met.by_ids (c.read_ids.new.ids, c.in-Some.index) c.in-Some.ensures.some ∙ ap Some c.in_ok-read_ids.ensures.key)

pub returns-in-Some-clause-index : goal.returns-in-Some-clause-index
returns-in-Some-clause-index g c =
    c.requires.met.by_ids (c.read_ids.new.ids, c.in-Some.index) c.in-Some.ensures.some ∙ ap Some c.in_ok-read_ids.ensures.key

pub start-requires : goal.start-requires
start-requires g c there =
    c.requires.met.several c.requires.several c.read_ids.new.ids c.in_ok-read_ids.ensures.least
    (subst (λ (key : List Value). Contains (keys_in_order c.args.groups.now) key) (c.of.ensures ∙ c.in_ok-values-in-None.ensures {u = tt} ∙ sym c.in_ok-read_ids.ensures.key) there)
    c.in-None.ensures.none

pub note-requires : goal.note-requires
note-requires g c = subst (IsAbsent c.args.met.now.by_ids) (sym (c.in_ok-copy_of-in-None.ensures {u = tt})) c.in-None.ensures.none

pub returns-in_ok-note-in-None-clause-met : goal.returns-in_ok-note-in-None-clause-met
returns-in_ok-note-in-None-clause-met g c =
    let copied = c.in_ok-copy_of-in-None.ensures {u = tt} in
    leads_more g.C.ScanColumn.values g.C.ScanColumn.value_of c.args.columns.now c.args.by.now c.args.groups.now c.start.new.self c.args.met.now c.note.new.self
    c.requires.met c.of.result c.in_ok-index-in-None.ensures.keys c.in_ok-index-in-None.index c.in_ok-index-in-None.ensures.index
    c.in_ok-copy_of-in-None.field-0 c.requires.several
    (ap (key_by g.C.ScanColumn.value_of c.args.columns.now c.args.by.now) copied ∙ c.in_ok-read_ids.ensures.key ∙ sym (c.of.ensures ∙ c.in_ok-values-in-None.ensures {u = tt}))
    (subst (λ (ids : List ℕ). AreLeast g.C.ScanColumn.value_of c.args.columns.now c.args.by.now ids) (sym copied) c.in_ok-read_ids.ensures.least)
    (c.in_ok-note-in-None.ensures {u = tt})
