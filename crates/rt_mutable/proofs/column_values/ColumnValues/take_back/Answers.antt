use Rattle.rt_schema.specs.declared.value.Value.TheVariants.{Int, Long, Text, Bool as Truth, Time}
use Rattle.rt_mutable.proofs.Mapped.{front_mapped}
use Rattle.rt_mutable.proofs.column_values.ColumnValues.take_back.Goals as goal

pub returns-in-Int-clause-values : goal.returns-in-Int-clause-values
returns-in-Int-clause-values c = rw c.in-Int.is (front_mapped Int _ c.take_back.new.self c.take_back.ensures)

pub returns-in-Long-clause-values : goal.returns-in-Long-clause-values
returns-in-Long-clause-values c = rw c.in-Long.is (front_mapped Long _ c.take_back-in-Long.new.self c.take_back-in-Long.ensures)

pub returns-in-Text-clause-values : goal.returns-in-Text-clause-values
returns-in-Text-clause-values c = rw c.in-Text.is (front_mapped Text _ c.take_back-in-Text.new.self c.take_back-in-Text.ensures)

pub returns-in-Bool-clause-values : goal.returns-in-Bool-clause-values
returns-in-Bool-clause-values c = rw c.in-Bool.is (front_mapped Truth _ c.take_back-in-Bool.new.self c.take_back-in-Bool.ensures)

pub returns-in-Time-clause-values : goal.returns-in-Time-clause-values
returns-in-Time-clause-values c = rw c.in-Time.is (front_mapped Time _ c.take_back-in-Time.new.self c.take_back-in-Time.ensures)
