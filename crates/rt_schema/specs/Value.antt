-- The values that a message gives a column.
use Rattle.std.specs.Prelude.{◌&&◌, ℤ, pos, negsuc, int_le, false, codes, Option, Some, None, option_map, option_and_then, if◌then◌else◌}
use Rattle.serde_json.specs.Data.{Data, null, boolean, number, string, array, object}
use Rattle.serde_json.specs.Find.{as_i64, as_number, as_str, as_bool}
use Rattle.rt_schema.specs.declared.column.Kind.{Kind}
use Rattle.rt_schema.specs.declared.column.Role.{Role}
use Rattle.rt_schema.specs.declared.column.Role.TheVariants.{Dimension, Metric, Moment}
use Rattle.rt_schema.specs.declared.value.Value.{Value}
use Rattle.rt_schema.specs.declared.value.Value.TheVariants.{Int, Long, Text, Bool as Truth, Time}
use Rattle.rt_schema.specs.declared.column.Column.{Column}

-- the kind of a value
abbrev pub kind_of : Value → Kind
kind_of (Int z) = Kind.Int
kind_of (Long z) = Kind.Long
kind_of (Text s) = Kind.Text
kind_of (Truth b) = Kind.Bool
kind_of (Time z) = Kind.Time

-- the value of a column that a message lacks, or has as null
abbrev pub missing_of : Kind → Role → Value
missing_of Kind.Int Metric = Int (pos 0)
missing_of Kind.Int Dimension = Int (negsuc 2147483647)
missing_of Kind.Int Moment = Int (negsuc 2147483647)
missing_of Kind.Long Metric = Long (pos 0)
missing_of Kind.Long Dimension = Long (negsuc 9223372036854775807)
missing_of Kind.Long Moment = Long (negsuc 9223372036854775807)
missing_of Kind.Text role = Text (codes "null")
missing_of Kind.Bool role = Truth false
missing_of Kind.Time role = Time (pos 0)

-- a whole number, where 32 signed bits hold it
abbrev pub in_32_bits : ℤ → Option ℤ
in_32_bits z = if int_le (negsuc 2147483647) z && int_le z (pos 2147483647) then Some z else None

-- a JSON value as one of a kind; a number with a fraction or an exponent is none, nor is -0
abbrev pub value_of : Kind → Data → Option Value
value_of Kind.Int d = option_map Int (option_and_then in_32_bits (option_and_then as_i64 (as_number d)))
value_of Kind.Long d = option_map Long (option_and_then as_i64 (as_number d))
value_of Kind.Text d = option_map Text (as_str d)
value_of Kind.Bool d = option_map Truth (as_bool d)
value_of Kind.Time d = option_map Time (option_and_then as_i64 (as_number d))

-- what a column gets from what stands at its name in a message
abbrev pub cell_of : Column → Option Data → Option Value
cell_of column None = Some (missing_of column.kind column.role)
cell_of column (Some null) = Some (missing_of column.kind column.role)
cell_of column (Some (boolean b)) = value_of column.kind (boolean b)
cell_of column (Some (number n)) = value_of column.kind (number n)
cell_of column (Some (string s)) = value_of column.kind (string s)
cell_of column (Some (array ds)) = value_of column.kind (array ds)
cell_of column (Some (object ms)) = value_of column.kind (object ms)
