-- What is read of a row: the whole numbers in its columns.
use Rattle.std.specs.Prelude.{ℕ, Option, Some, None, slice_get, option_and_then}
use Rattle.rt_schema.specs.declared.row.Row.{Row}
use Rattle.rt_schema.specs.declared.value.Value.{Value}
use Rattle.rt_schema.specs.declared.value.Value.TheVariants.{Int, Long, Text, Bool as Truth, Time}
use Rattle.rt_agg.specs.declared.scalar.Scalar.{Scalar}
use Rattle.rt_agg.specs.declared.scalar.Scalar.TheVariants as scalar

-- a value that is a whole number of its kind
abbrev pub scalar_of : Value → Option Scalar
scalar_of (Int number) = Some (scalar.Int number)
scalar_of (Long number) = Some (scalar.Long number)
scalar_of (Text text) = None
scalar_of (Truth truth) = None
scalar_of (Time millis) = Some (scalar.Time millis)

abbrev pub value_from : Scalar → Value
value_from (scalar.Int number) = Int number
value_from (scalar.Long number) = Long number
value_from (scalar.Time millis) = Time millis

-- the whole number in a column of a row
abbrev pub scalar_at : Row → ℕ → Option Scalar
scalar_at row place = option_and_then scalar_of (slice_get row.values place)
