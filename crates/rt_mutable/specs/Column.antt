-- What a column of a consuming segment holds.
use Rattle.std.specs.Prelude.{ℕ, Bool, false, List, map}
use Rattle.std.specs.Ordering.{int_eq}
use Rattle.std.specs.Str.{bytes_eq}
use mathlib.Core.Bool.{beq}
use Rattle.rt_schema.specs.declared.column.Kind.{Kind}
use Rattle.rt_schema.specs.declared.value.Value.{Value}
use Rattle.rt_schema.specs.declared.value.Value.TheVariants.{Int, Long, Text, Bool as Truth, Time}
use Rattle.rt_mutable.specs.declared.column_values.ColumnValues.{ColumnValues}
use Rattle.rt_mutable.specs.declared.column_values.ColumnValues.TheVariants.{Int as Ints, Long as Longs, Text as Texts, Bool as Truths, Time as Times}

-- whether two values are the same one
abbrev pub same_value : Value → Value → Bool
same_value (Int a) (Int b) = int_eq a b
same_value (Long a) (Long b) = int_eq a b
same_value (Text a) (Text b) = bytes_eq a b
same_value (Truth a) (Truth b) = beq a b
same_value (Time a) (Time b) = int_eq a b
same_value a b = false

-- the values of the rows
abbrev pub values_in : ColumnValues → List Value
values_in (Ints numbers) = map Int numbers
values_in (Longs numbers) = map Long numbers
values_in (Texts texts) = map Text texts
values_in (Truths truths) = map Truth truths
values_in (Times moments) = map Time moments

abbrev pub kind_in : ColumnValues → Kind
kind_in (Ints numbers) = Kind.Int
kind_in (Longs numbers) = Kind.Long
kind_in (Texts texts) = Kind.Text
kind_in (Truths truths) = Kind.Bool
kind_in (Times moments) = Kind.Time

-- a column by its name and the kind of its values, and whether it keeps the rows of each value
pub record Shape : Type 0 where
  pub name : List ℕ
  pub kind : Kind
  pub indexed : Bool

-- a column with the values of its rows
pub record Filled : Type 0 where
  pub shape : Shape
  pub values : List Value
