use Rattle.std.proofs.Common.{◌≡◌, ◌<◌, ℕ, List, length, map, refl, sym, ap, subst, ◌∙◌}
use Rattle.std.specs.Prelude.{slice_index_or}
use Rattle.std.specs.Ordering.{int_eq}
use Rattle.std.specs.Str.{bytes_eq}
use mathlib.Core.Bool.{beq}
use Rattle.rt_schema.specs.declared.value.Value.{Value}
use Rattle.rt_schema.specs.declared.value.Value.TheVariants.{Int, Long, Text, Bool as Truth, Time}
use Rattle.rt_agg.specs.Paging.{fed}
use Rattle.rt_mutable.specs.Arrivals.{arrivals_of}
use Rattle.rt_mutable.specs.Column.{same_value, values_in}
use Rattle.rt_mutable.proofs.Mapped.{length_mapped, map_arrivals}
use Rattle.rt_seek.specs.Scalars.{led, scalar_on}
use Rattle.rt_seek.proofs.Scalars.{none_led}
use Rattle.rt_seek.proofs.consuming_column.feed_arrived.Goals as goal

pub feed_led-requires : goal.feed_led-requires
feed_led-requires g c k d h =
    let count : length (arrivals_of same_value (values_in c.args.values.now)) ≡ length c.keys-keys.result.now =
    ap (λ vs. length (arrivals_of same_value (values_in vs))) c.in-Int.is ∙ sym (length_mapped int_eq same_value Int (λ a b. refl) c.in-Int.arrivals) ∙ sym (ap length c.keys-keys.ensures) in
    subst (λ (n : ℕ). slice_index_or c.args.ids.now k d < n) count (c.requires k d h)

pub feed_led-requires-in-Long : goal.feed_led-requires-in-Long
feed_led-requires-in-Long g c k d h =
    let count : length (arrivals_of same_value (values_in c.args.values.now)) ≡ length c.keys-keys-in-Long.result.now =
    ap (λ vs. length (arrivals_of same_value (values_in vs))) c.in-Long.is ∙ sym (length_mapped int_eq same_value Long (λ a b. refl) c.in-Long.arrivals) ∙ sym (ap length c.keys-keys-in-Long.ensures) in
    subst (λ (n : ℕ). slice_index_or c.args.ids.now k d < n) count (c.requires k d h)

pub feed_led-requires-in-Time : goal.feed_led-requires-in-Time
feed_led-requires-in-Time g c k d h =
    let count : length (arrivals_of same_value (values_in c.args.values.now)) ≡ length c.keys-keys-in-Time.result.now =
    ap (λ vs. length (arrivals_of same_value (values_in vs))) c.in-Time.is ∙ sym (length_mapped int_eq same_value Time (λ a b. refl) c.in-Time.arrivals) ∙ sym (ap length c.keys-keys-in-Time.ensures) in
    subst (λ (n : ℕ). slice_index_or c.args.ids.now k d < n) count (c.requires k d h)

pub returns-in-Int : goal.returns-in-Int
returns-in-Int g c =
    c.feed_led.ensures
    ∙ ap (λ (vs : List Value). fed g.T.TakeScalar.takes (scalar_on (led vs c.args.ids.now)) c.args.page.now c.args.taker.now)
    (ap (map Int) c.keys-keys.ensures ∙ map_arrivals int_eq same_value Int (λ a b. refl) c.in-Int.arrivals ∙ ap (λ vs. arrivals_of same_value (values_in vs)) (sym c.in-Int.is))

pub returns-in-Long : goal.returns-in-Long
returns-in-Long g c =
    c.feed_led-in-Long.ensures
    ∙ ap (λ (vs : List Value). fed g.T.TakeScalar.takes (scalar_on (led vs c.args.ids.now)) c.args.page.now c.args.taker.now)
    (ap (map Long) c.keys-keys-in-Long.ensures ∙ map_arrivals int_eq same_value Long (λ a b. refl) c.in-Long.arrivals ∙ ap (λ vs. arrivals_of same_value (values_in vs)) (sym c.in-Long.is))

pub returns-in-Time : goal.returns-in-Time
returns-in-Time g c =
    c.feed_led-in-Time.ensures
    ∙ ap (λ (vs : List Value). fed g.T.TakeScalar.takes (scalar_on (led vs c.args.ids.now)) c.args.page.now c.args.taker.now)
    (ap (map Time) c.keys-keys-in-Time.ensures ∙ map_arrivals int_eq same_value Time (λ a b. refl) c.in-Time.arrivals ∙ ap (λ vs. arrivals_of same_value (values_in vs)) (sym c.in-Time.is))

pub returns-in-Text : goal.returns-in-Text
returns-in-Text g c =
    c.take_same.ensures
    ∙ (λ j. fed g.T.TakeScalar.takes (λ row. none_led Text (λ v. refl) (arrivals_of bytes_eq c.in-Text.field-0) c.args.ids.now row j) c.args.page.now c.args.taker.now)
    ∙ ap (λ (vs : List Value). fed g.T.TakeScalar.takes (scalar_on (led vs c.args.ids.now)) c.args.page.now c.args.taker.now)
    (map_arrivals bytes_eq same_value Text (λ a b. refl) c.in-Text.field-0 ∙ ap (λ vs. arrivals_of same_value (values_in vs)) (sym c.in-Text.is))

pub returns-in-Bool : goal.returns-in-Bool
returns-in-Bool g c =
    c.take_same-in-Bool.ensures
    ∙ (λ j. fed g.T.TakeScalar.takes (λ row. none_led Truth (λ v. refl) (arrivals_of beq c.in-Bool.field-0) c.args.ids.now row j) c.args.page.now c.args.taker.now)
    ∙ ap (λ (vs : List Value). fed g.T.TakeScalar.takes (scalar_on (led vs c.args.ids.now)) c.args.page.now c.args.taker.now)
    (map_arrivals beq same_value Truth (λ a b. refl) c.in-Bool.field-0 ∙ ap (λ vs. arrivals_of same_value (values_in vs)) (sym c.in-Bool.is))
