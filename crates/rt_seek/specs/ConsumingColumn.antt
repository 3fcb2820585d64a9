-- The values of a column in the first rows of a consuming segment.
use Rattle.std.specs.Prelude.{ℕ, List, take}
use Rattle.rt_schema.specs.declared.value.Value.{Value}
use Rattle.rt_mutable.specs.Arrivals.{arrivals_of}
use Rattle.rt_mutable.specs.Column.{Filled, same_value}
use Rattle.rt_seek.specs.Table.{item_at}

abbrev pub first_values : Filled → ℕ → List Value
first_values column rows = take rows column.values

-- the value that an id stands for
abbrev pub arrival_of : Filled → ℕ → Value
arrival_of column id = item_at (arrivals_of same_value column.values) id
