use Rattle.std.proofs.Common.{refl, ◌∙◌}
use Rattle.std.specs.Ordering.{int_eq}
use Rattle.std.specs.Str.{bytes_eq}
use mathlib.Core.Bool.{beq}
use Rattle.rt_schema.specs.declared.value.Value.TheVariants.{Int, Long, Text, Bool as Truth, Time}
use Rattle.rt_mutable.specs.Column.{same_value}
use Rattle.rt_mutable.proofs.Mapped.{position_mapped}
use Rattle.rt_mutable.proofs.column_values.ColumnValues.id_of.Goals as goal

pub returns-in-Int-value : goal.returns-in-Int-value
returns-in-Int-value c = rw (c.in-Int-value.is, c.in-Int.is) (c.id_of.ensures ∙ position_mapped int_eq same_value Int (λ a b. refl) c.in-Int.arrivals c.in-Int-value.number)

pub returns-in-Long-value : goal.returns-in-Long-value
returns-in-Long-value c = rw (c.in-Long-value.is, c.in-Long.is) (c.id_of-in-Long-value.ensures ∙ position_mapped int_eq same_value Long (λ a b. refl) c.in-Long.arrivals c.in-Long-value.number)

pub returns-in-Text-value : goal.returns-in-Text-value
returns-in-Text-value c = rw (c.in-Text-value.is, c.in-Text.is) (c.id_of-in-Text-value.ensures ∙ position_mapped bytes_eq same_value Text (λ a b. refl) c.in-Text.arrivals c.in-Text-value.text)

pub returns-in-Bool-value : goal.returns-in-Bool-value
returns-in-Bool-value c = rw (c.in-Bool-value.is, c.in-Bool.is) (c.id_of-in-Bool-value.ensures ∙ position_mapped beq same_value Truth (λ a b. refl) c.in-Bool.arrivals c.in-Bool-value.truth)

pub returns-in-Time-value : goal.returns-in-Time-value
returns-in-Time-value c = rw (c.in-Time-value.is, c.in-Time.is) (c.id_of-in-Time-value.ensures ∙ position_mapped int_eq same_value Time (λ a b. refl) c.in-Time.arrivals c.in-Time-value.millis)
