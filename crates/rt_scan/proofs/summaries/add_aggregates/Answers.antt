use Rattle.std.proofs.Common.{◌∙◌, ap, refl, subst, sym}
use Rattle.std.proofs.lemmas.Option.{slice_get_read}
use Rattle.rt_model.specs.declared.query_parts.Aggregate.TheVariants as kind
use Rattle.rt_model.specs.declared.query_parts.Item.TheVariants as item
use Rattle.rt_scan.specs.Summaries.{HasNumbers, IsFitting, is_number}
use Rattle.rt_scan.proofs.Summing.{three_more}
use Rattle.rt_scan.proofs.summaries.add_aggregates.Goals as goal

pub returns-in_ok-push-3 : goal.returns-in_ok-push-3
returns-in_ok-push-3 c all =
    let columns = c.args.columns.now in
    let has : HasNumbers columns c.args.place = (
      c.index-columns-place.result,
      slice_get_read columns _ c.args.place c.index-columns-place.result refl c.requires.place c.index-columns-place.is,
      ap is_number (sym c.kind.ensures) ∙ sym c.is_number.ensures ∙ c.if-is_number.true,
    ) in
    three_more (IsFitting columns) c.args.items.now c.push.new.self c.push-then-is_number.new.self c.push-then-is_number-2.new.self
    (item.Aggregate (kind.Sum c.in_ok-column_at.field-0)) (item.Aggregate (kind.Min c.in_ok-column_at-2.field-0)) (item.Aggregate (kind.Max c.in_ok-column_at-3.field-0)) all
    (subst (HasNumbers columns) (sym c.in_ok-column_at.ensures) has) (subst (HasNumbers columns) (sym c.in_ok-column_at-2.ensures) has) (subst (HasNumbers columns) (sym c.in_ok-column_at-3.ensures) has)
    c.in_ok-push.ensures.ok c.in_ok-push-2.ensures.ok c.in_ok-push-3.ensures.ok
