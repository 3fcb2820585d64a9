use Rattle.std.proofs.Common.{refl, sym, ap, ◌∙◌}
use Rattle.rt_schema.specs.declared.value.Value.TheVariants as value
use Rattle.rt_agg.specs.Paging.{fed}
use Rattle.rt_segment.specs.Column.{values_in}
use Rattle.rt_seek.specs.Scalars.{led, scalar_on}
use Rattle.rt_seek.proofs.Scalars.{none_led}
use Rattle.rt_seek.proofs.file_column.feed_held.Goals as goal

pub returns-in-Text : goal.returns-in-Text
returns-in-Text g c =
    c.take_same.ensures
    ∙ (λ j. fed g.T.TakeScalar.takes (λ row. none_led value.Text (λ t. refl) c.in-Text.field-0 c.args.ids.now row j) c.args.page.now c.args.taker.now)
    ∙ ap (λ d. fed g.T.TakeScalar.takes (scalar_on (led (values_in d) c.args.ids.now)) c.args.page.now c.args.taker.now) (sym c.in-Text.is)

pub returns-in-Bool : goal.returns-in-Bool
returns-in-Bool g c =
    c.take_same-in-Bool.ensures
    ∙ (λ j. fed g.T.TakeScalar.takes (λ row. none_led value.Bool (λ b. refl) c.in-Bool.field-0 c.args.ids.now row j) c.args.page.now c.args.taker.now)
    ∙ ap (λ d. fed g.T.TakeScalar.takes (scalar_on (led (values_in d) c.args.ids.now)) c.args.page.now c.args.taker.now) (sym c.in-Bool.is)
