-- A value that is borrowed where it lies.
use Rattle.rt_schema.specs.declared.value.Value.{Value}
use Rattle.rt_schema.specs.declared.value.Value.TheVariants as value
use Rattle.rt_agg.specs.declared.value_ref.ValueRef.{ValueRef}
use Rattle.rt_agg.specs.declared.value_ref.ValueRef.TheVariants.{Int, Long, Text, Bool as Truth, Time}

-- the value that is lent
abbrev pub value_lent : ValueRef → Value
value_lent (Int number) = value.Int number
value_lent (Long number) = value.Long number
value_lent (Text text) = value.Text text.now
value_lent (Truth truth) = value.Bool truth
value_lent (Time millis) = value.Time millis
