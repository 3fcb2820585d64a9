use Rattle.std.proofs.Common.{refl, sym, ap, ◌∙◌, map}
use Rattle.std.specs.Ordering.{int_eq}
use Rattle.std.specs.Str.{bytes_eq}
use mathlib.Core.Bool.{beq}
use Rattle.rt_schema.specs.declared.value.Value.TheVariants as value
use Rattle.rt_model.specs.Values.{number_against, text_against, truth_against}
use Rattle.rt_mutable.specs.Arrivals.{arrivals_of}
use Rattle.rt_mutable.specs.Column.{same_value, values_in}
use Rattle.rt_mutable.proofs.Mapped.{map_arrivals}
use Rattle.rt_seek.specs.ColumnTest.{passes_test}
use Rattle.rt_seek.specs.Keys.{key_passes}
use Rattle.rt_seek.proofs.Sets.{ok_then}
use Rattle.rt_seek.proofs.Held.{truths_alike}
use Rattle.rt_seek.proofs.consuming_column.truths_in.Goals as goal

pub returns-in-Int : goal.returns-in-Int
returns-in-Int c = ok_then c.truths_of_keys.result _ _ c.truths_of_keys.ensures (λ truths e.
    e ∙ ap (map (key_passes number_against c.args.test.now)) c.keys.ensures
    ∙ truths_alike value.Int number_against (λ z l. refl) c.args.test.now (arrivals_of int_eq c.in-Int.arrivals)
    ∙ ap (map (passes_test c.args.test.now)) (map_arrivals int_eq same_value value.Int (λ a b. refl) c.in-Int.arrivals)
    ∙ ap (λ vs. map (passes_test c.args.test.now) (arrivals_of same_value (values_in vs))) (sym c.in-Int.is))

pub returns-in-Long : goal.returns-in-Long
returns-in-Long c = ok_then c.truths_of_keys-in-Long.result _ _ c.truths_of_keys-in-Long.ensures (λ truths e.
    e ∙ ap (map (key_passes number_against c.args.test.now)) c.keys-in-Long.ensures
    ∙ truths_alike value.Long number_against (λ z l. refl) c.args.test.now (arrivals_of int_eq c.in-Long.arrivals)
    ∙ ap (map (passes_test c.args.test.now)) (map_arrivals int_eq same_value value.Long (λ a b. refl) c.in-Long.arrivals)
    ∙ ap (λ vs. map (passes_test c.args.test.now) (arrivals_of same_value (values_in vs))) (sym c.in-Long.is))

pub returns-in-Text : goal.returns-in-Text
returns-in-Text c = ok_then c.truths_of_keys-in-Text.result _ _ c.truths_of_keys-in-Text.ensures (λ truths e.
    e ∙ ap (map (key_passes text_against c.args.test.now)) c.keys-in-Text.ensures
    ∙ truths_alike value.Text text_against (λ z l. refl) c.args.test.now (arrivals_of bytes_eq c.in-Text.arrivals)
    ∙ ap (map (passes_test c.args.test.now)) (map_arrivals bytes_eq same_value value.Text (λ a b. refl) c.in-Text.arrivals)
    ∙ ap (λ vs. map (passes_test c.args.test.now) (arrivals_of same_value (values_in vs))) (sym c.in-Text.is))

pub returns-in-Bool : goal.returns-in-Bool
returns-in-Bool c = ok_then c.truths_of_keys-in-Bool.result _ _ c.truths_of_keys-in-Bool.ensures (λ truths e.
    e ∙ ap (map (key_passes truth_against c.args.test.now)) c.keys-in-Bool.ensures
    ∙ truths_alike value.Bool truth_against (λ z l. refl) c.args.test.now (arrivals_of beq c.in-Bool.arrivals)
    ∙ ap (map (passes_test c.args.test.now)) (map_arrivals beq same_value value.Bool (λ a b. refl) c.in-Bool.arrivals)
    ∙ ap (λ vs. map (passes_test c.args.test.now) (arrivals_of same_value (values_in vs))) (sym c.in-Bool.is))

pub returns-in-Time : goal.returns-in-Time
returns-in-Time c = ok_then c.truths_of_keys-in-Time.result _ _ c.truths_of_keys-in-Time.ensures (λ truths e.
    e ∙ ap (map (key_passes number_against c.args.test.now)) c.keys-in-Time.ensures
    ∙ truths_alike value.Time number_against (λ z l. refl) c.args.test.now (arrivals_of int_eq c.in-Time.arrivals)
    ∙ ap (map (passes_test c.args.test.now)) (map_arrivals int_eq same_value value.Time (λ a b. refl) c.in-Time.arrivals)
    ∙ ap (λ vs. map (passes_test c.args.test.now) (arrivals_of same_value (values_in vs))) (sym c.in-Time.is))
