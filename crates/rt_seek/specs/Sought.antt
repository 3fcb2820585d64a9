-- The values that literals equal.
use Rattle.std.specs.Prelude.{Option, option_map}
use Rattle.rt_schema.specs.declared.column.Kind.{Kind}
use Rattle.rt_schema.specs.declared.value.Value.{Value}
use Rattle.rt_schema.specs.declared.value.Value.TheVariants.{Int, Long, Text, Bool as Truth, Time}
use Rattle.rt_model.specs.declared.query_parts.Literal.{Literal}
use Rattle.rt_seek.specs.Keys.{int_of, long_of, text_of, truth_of}

-- the value of a kind that equals a literal, where there is one
abbrev pub value_sought : Kind → Literal → Option Value
value_sought Kind.Int l = option_map Int (int_of l)
value_sought Kind.Long l = option_map Long (long_of l)
value_sought Kind.Text l = option_map Text (text_of l)
value_sought Kind.Bool l = option_map Truth (truth_of l)
value_sought Kind.Time l = option_map Time (long_of l)
