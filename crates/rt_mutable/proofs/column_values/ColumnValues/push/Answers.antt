use Rattle.std.proofs.Common.{refl}
use Rattle.std.specs.Ordering.{int_eq}
use Rattle.std.specs.Str.{bytes_eq}
use mathlib.Core.Bool.{beq}
use Rattle.rt_schema.specs.declared.value.Value.TheVariants.{Int, Long, Text, Bool as Truth, Time}
use Rattle.rt_mutable.specs.Column.{same_value}
use Rattle.rt_mutable.proofs.Mapped.{id_mapped}
use Rattle.rt_mutable.proofs.column_values.ColumnValues.push.Goals as goal

pub returns-in-Int-value-clause-id : goal.returns-in-Int-value-clause-id
returns-in-Int-value-clause-id c = rw c.in-Int-value.is (id_mapped int_eq same_value Int (λ a b. refl) c.push.new.self c.in-Int-value.number c.push.result c.push.ensures.id)

pub returns-in-Long-value-clause-id : goal.returns-in-Long-value-clause-id
returns-in-Long-value-clause-id c = rw c.in-Long-value.is (id_mapped int_eq same_value Long (λ a b. refl) c.push-in-Long-value.new.self c.in-Long-value.number c.push-in-Long-value.result c.push-in-Long-value.ensures.id)

pub returns-in-Text-value-clause-id : goal.returns-in-Text-value-clause-id
returns-in-Text-value-clause-id c = rw c.in-Text-value.is (id_mapped bytes_eq same_value Text (λ a b. refl) c.push-in-Text-value.new.self c.in-Text-value.text c.push-in-Text-value.result c.push-in-Text-value.ensures.id)

pub returns-in-Bool-value-clause-id : goal.returns-in-Bool-value-clause-id
returns-in-Bool-value-clause-id c = rw c.in-Bool-value.is (id_mapped beq same_value Truth (λ a b. refl) c.push-in-Bool-value.new.self c.in-Bool-value.truth c.push-in-Bool-value.result c.push-in-Bool-value.ensures.id)

pub returns-in-Time-value-clause-id : goal.returns-in-Time-value-clause-id
returns-in-Time-value-clause-id c = rw c.in-Time-value.is (id_mapped int_eq same_value Time (λ a b. refl) c.push-in-Time-value.new.self c.in-Time-value.millis c.push-in-Time-value.result c.push-in-Time-value.ensures.id)
