use Rattle.std.proofs.Common.{refl, ap, ◌∙◌, length}
use Rattle.std.specs.Ordering.{int_eq}
use Rattle.std.specs.Str.{bytes_eq}
use mathlib.Core.Bool.{beq}
use Rattle.rt_schema.specs.declared.value.Value.TheVariants.{Int, Long, Text, Bool as Truth, Time}
use Rattle.rt_mutable.specs.Column.{same_value}
use Rattle.rt_mutable.proofs.Mapped.{length_mapped}
use Rattle.rt_mutable.proofs.column_values.ColumnValues.len.Goals as goal

pub returns-in-Int : goal.returns-in-Int
returns-in-Int c = rw c.in-Int.is (ap length c.keys.ensures ∙ length_mapped int_eq same_value Int (λ a b. refl) c.in-Int.arrivals)

pub returns-in-Long : goal.returns-in-Long
returns-in-Long c = rw c.in-Long.is (ap length c.keys-in-Long.ensures ∙ length_mapped int_eq same_value Long (λ a b. refl) c.in-Long.arrivals)

pub returns-in-Text : goal.returns-in-Text
returns-in-Text c = rw c.in-Text.is (ap length c.keys-in-Text.ensures ∙ length_mapped bytes_eq same_value Text (λ a b. refl) c.in-Text.arrivals)

pub returns-in-Bool : goal.returns-in-Bool
returns-in-Bool c = rw c.in-Bool.is (ap length c.keys-in-Bool.ensures ∙ length_mapped beq same_value Truth (λ a b. refl) c.in-Bool.arrivals)

pub returns-in-Time : goal.returns-in-Time
returns-in-Time c = rw c.in-Time.is (ap length c.keys-in-Time.ensures ∙ length_mapped int_eq same_value Time (λ a b. refl) c.in-Time.arrivals)
