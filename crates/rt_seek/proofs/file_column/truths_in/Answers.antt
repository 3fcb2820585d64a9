use Rattle.std.proofs.Common.{refl, sym, ap, ◌∙◌, map}
use Rattle.rt_schema.specs.declared.value.Value.TheVariants as value
use Rattle.rt_model.specs.Values.{number_against, text_against, truth_against}
use Rattle.rt_segment.specs.Column.{values_in}
use Rattle.rt_seek.specs.ColumnTest.{passes_test}
use Rattle.rt_seek.proofs.Sets.{ok_then}
use Rattle.rt_seek.proofs.Held.{truths_alike}
use Rattle.rt_seek.proofs.file_column.truths_in.Goals as goal

pub returns-in-Int : goal.returns-in-Int
returns-in-Int c = ok_then c.truths_of.result _ _ c.truths_of.ensures (λ truths e.
    e ∙ truths_alike value.Int number_against (λ z l. refl) c.args.test.now c.in-Int.dict ∙ ap (λ d. map (passes_test c.args.test.now) (values_in d)) (sym c.in-Int.is))

pub returns-in-Long : goal.returns-in-Long
returns-in-Long c = ok_then c.truths_of-in-Long.result _ _ c.truths_of-in-Long.ensures (λ truths e.
    e ∙ truths_alike value.Long number_against (λ z l. refl) c.args.test.now c.in-Long.dict ∙ ap (λ d. map (passes_test c.args.test.now) (values_in d)) (sym c.in-Long.is))

pub returns-in-Text : goal.returns-in-Text
returns-in-Text c = ok_then c.truths_of-in-Text.result _ _ c.truths_of-in-Text.ensures (λ truths e.
    e ∙ truths_alike value.Text text_against (λ z l. refl) c.args.test.now c.in-Text.dict ∙ ap (λ d. map (passes_test c.args.test.now) (values_in d)) (sym c.in-Text.is))

pub returns-in-Bool : goal.returns-in-Bool
returns-in-Bool c = ok_then c.truths_of-in-Bool.result _ _ c.truths_of-in-Bool.ensures (λ truths e.
    e ∙ truths_alike value.Bool truth_against (λ z l. refl) c.args.test.now c.in-Bool.dict ∙ ap (λ d. map (passes_test c.args.test.now) (values_in d)) (sym c.in-Bool.is))

pub returns-in-Time : goal.returns-in-Time
returns-in-Time c = ok_then c.truths_of-in-Time.result _ _ c.truths_of-in-Time.ensures (λ truths e.
    e ∙ truths_alike value.Time number_against (λ z l. refl) c.args.test.now c.in-Time.dict ∙ ap (λ d. map (passes_test c.args.test.now) (values_in d)) (sym c.in-Time.is))
