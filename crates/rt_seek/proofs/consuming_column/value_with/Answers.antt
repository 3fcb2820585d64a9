use Rattle.std.proofs.Common.{refl, ap, ◌∙◌, ◌<◌, length, subst}
use Rattle.std.specs.Ordering.{int_eq}
use Rattle.std.specs.Str.{bytes_eq}
use mathlib.Core.Bool.{beq}
use Rattle.rt_schema.specs.declared.value.Value.TheVariants.{Int, Long, Text, Bool as Truth, Time}
use Rattle.rt_agg.specs.Reading.{value_from}
use Rattle.rt_mutable.specs.Arrivals.{arrivals_of}
use Rattle.rt_mutable.specs.Column.{same_value, values_in}
use Rattle.rt_mutable.specs.declared.column_values.ColumnValues.{ColumnValues}
use Rattle.rt_mutable.proofs.Mapped.{within_mapped, value_mapped}
use Rattle.rt_seek.proofs.Arrived.{led_value}
use Rattle.rt_seek.proofs.consuming_column.value_with.Goals as goal

pub key-requires : goal.key-requires
key-requires c =
    let within = subst (λ (vs : ColumnValues). c.args.id < length (arrivals_of same_value (values_in vs))) c.in-Int.is c.requires in
    within_mapped int_eq same_value Int (λ a b. refl) c.in-Int.arrivals c.args.id within

pub returns-in-Int : goal.returns-in-Int
returns-in-Int c =
    c.of_scalar.ensures ∙ ap value_from c.int_scalar.ensures ∙ led_value (values_in c.args.values.now) c.args.id (Int c.key.result.now)
    (rw c.in-Int.is (value_mapped int_eq same_value Int (λ a b. refl) c.in-Int.arrivals c.args.id _ c.key.ensures))

pub key-requires-in-Long : goal.key-requires-in-Long
key-requires-in-Long c =
    let within = subst (λ (vs : ColumnValues). c.args.id < length (arrivals_of same_value (values_in vs))) c.in-Long.is c.requires in
    within_mapped int_eq same_value Long (λ a b. refl) c.in-Long.arrivals c.args.id within

pub returns-in-Long : goal.returns-in-Long
returns-in-Long c =
    c.of_scalar-in-Long.ensures ∙ ap value_from c.long_scalar.ensures ∙ led_value (values_in c.args.values.now) c.args.id (Long c.key-in-Long.result.now)
    (rw c.in-Long.is (value_mapped int_eq same_value Long (λ a b. refl) c.in-Long.arrivals c.args.id _ c.key-in-Long.ensures))

pub key-requires-in-Text : goal.key-requires-in-Text
key-requires-in-Text c =
    let within = subst (λ (vs : ColumnValues). c.args.id < length (arrivals_of same_value (values_in vs))) c.in-Text.is c.requires in
    within_mapped bytes_eq same_value Text (λ a b. refl) c.in-Text.arrivals c.args.id within

pub returns-in-Text : goal.returns-in-Text
returns-in-Text c =
    ap Text c.as_str.ensures ∙ led_value (values_in c.args.values.now) c.args.id (Text c.key-in-Text.result.now)
    (rw c.in-Text.is (value_mapped bytes_eq same_value Text (λ a b. refl) c.in-Text.arrivals c.args.id _ c.key-in-Text.ensures))

pub key-requires-in-Bool : goal.key-requires-in-Bool
key-requires-in-Bool c =
    let within = subst (λ (vs : ColumnValues). c.args.id < length (arrivals_of same_value (values_in vs))) c.in-Bool.is c.requires in
    within_mapped beq same_value Truth (λ a b. refl) c.in-Bool.arrivals c.args.id within

pub returns-in-Bool : goal.returns-in-Bool
returns-in-Bool c =
    led_value (values_in c.args.values.now) c.args.id (Truth c.key-in-Bool.result.now)
    (rw c.in-Bool.is (value_mapped beq same_value Truth (λ a b. refl) c.in-Bool.arrivals c.args.id _ c.key-in-Bool.ensures))

pub key-requires-in-Time : goal.key-requires-in-Time
key-requires-in-Time c =
    let within = subst (λ (vs : ColumnValues). c.args.id < length (arrivals_of same_value (values_in vs))) c.in-Time.is c.requires in
    within_mapped int_eq same_value Time (λ a b. refl) c.in-Time.arrivals c.args.id within

pub returns-in-Time : goal.returns-in-Time
returns-in-Time c =
    c.of_scalar-in-Time.ensures ∙ ap value_from c.time_scalar.ensures ∙ led_value (values_in c.args.values.now) c.args.id (Time c.key-in-Time.result.now)
    (rw c.in-Time.is (value_mapped int_eq same_value Time (λ a b. refl) c.in-Time.arrivals c.args.id _ c.key-in-Time.ensures))
