use Rattle.std.proofs.Common.{List, [], ◌∷◌, ◌∙◌, Some, ap, refl, sym, subst}
use Rattle.std.specs.List.{Contains}
use Rattle.rt_schema.specs.declared.value.Value.{Value}
use Rattle.rt_model.specs.Aggregate.{key_of}
use Rattle.rt_agg.specs.Grouped.{keys_in_order}
use Rattle.rt_agg.proofs.Awaiting.{awaits_one_there}
use Rattle.rt_seek.specs.Table.{row_at}
use Rattle.rt_scan.proofs.Leading.{leads_one}
use Rattle.rt_scan.proofs.grouping.place_by_id.Goals as goal

pub returns-in-Some-clause-awaits : goal.returns-in-Some-clause-awaits
returns-in-Some-clause-awaits g c =
    awaits_one_there (key_of (c.args.by.now ∷ []) (row_at g.C.ScanColumn.values c.args.columns.now c.args.row)) c.args.groups.now c.in-Some.index
    (c.requires.met.by_id c.id_in-id.result c.in-Some.index c.in-Some.ensures.some ∙ ap (λ v. Some (v ∷ [])) c.id_in-id.ensures.value)

pub returns-in-Some-clause-index : goal.returns-in-Some-clause-index
returns-in-Some-clause-index g c =
    c.requires.met.by_id c.id_in-id.result c.in-Some.index c.in-Some.ensures.some ∙ ap (λ v. Some (v ∷ [])) c.id_in-id.ensures.value

pub start-requires : goal.start-requires
start-requires g c there =
    c.requires.met.one refl c.id_in-id.result (c.id_in-id.ensures.least, tt)
    (subst (λ (key : List Value). Contains (keys_in_order c.args.groups.now) key)
    (c.in_ok-key-in-None.ensures {u = tt} ∙ ap (λ v. v ∷ []) c.value_in.ensures ∙ ap (λ v. v ∷ []) (sym c.id_in-id.ensures.value)) there)
    c.in-None.ensures.none

pub returns-in_ok-note_one-in-None-clause-met : goal.returns-in_ok-note_one-in-None-clause-met
returns-in_ok-note_one-in-None-clause-met g c =
    leads_one g.C.ScanColumn.values g.C.ScanColumn.value_of c.args.columns.now (c.args.by.now ∷ []) c.args.groups.now c.start.new.self c.args.met.now c.note_one.new.self
    c.requires.met c.in_ok-key-in-None.key c.in_ok-index-in-None.ensures.keys c.in_ok-index-in-None.index c.in_ok-index-in-None.ensures.index c.id_in-id.result refl
    (ap (λ v. v ∷ []) c.id_in-id.ensures.value ∙ sym (c.in_ok-key-in-None.ensures {u = tt} ∙ ap (λ v. v ∷ []) c.value_in.ensures))
    (c.id_in-id.ensures.least, tt) c.in_ok-note_one-in-None.ensures.noted c.note_one.ensures.same
