use Rattle.std.proofs.Common.{sym, ap, ◌∙◌}
use Rattle.rt_schema.specs.declared.value.Value.TheVariants as value
use Rattle.rt_agg.specs.Reading.{value_from}
use Rattle.rt_segment.specs.Column.{values_in}
use Rattle.rt_seek.specs.Table.{item_at}
use Rattle.rt_seek.proofs.Held.{value_is}
use Rattle.rt_seek.proofs.file_column.value_with.Goals as goal

pub returns-in-Text : goal.returns-in-Text
returns-in-Text c =
    ap value.Text c.as_str.ensures
    ∙ value_is value.Text c.in-Text.dict c.args.id c.value-in-Text.result.now c.value-in-Text.ensures ∙ ap (λ d. item_at (values_in d) c.args.id) (sym c.in-Text.is)

pub returns-in-Bool : goal.returns-in-Bool
returns-in-Bool c =
    value_is value.Bool c.in-Bool.dict c.args.id c.value-in-Bool.result.now c.value-in-Bool.ensures ∙ ap (λ d. item_at (values_in d) c.args.id) (sym c.in-Bool.is)

pub returns-in-Time : goal.returns-in-Time
returns-in-Time c =
    c.of_scalar.ensures ∙ ap value_from c.time_scalar.ensures
    ∙ value_is value.Time c.in-Time.dict c.args.id c.value-in-Time.result.now c.value-in-Time.ensures ∙ ap (λ d. item_at (values_in d) c.args.id) (sym c.in-Time.is)
