-- What a group knows of its rows for one item of the query.
use Rattle.std.specs.Prelude.{ℕ, Option}
use Rattle.rt_schema.specs.declared.value.Value.{Value}
use Rattle.rt_agg.specs.declared.scalar.Scalar.{Scalar}
use Rattle.rt_agg.specs.Summed.{Summed}

pub data Accumulator : Type 0 where
  -- the value of a column of the group's key
  Column : Value → Accumulator
  -- how many rows there are
  Count : ℕ → Accumulator
  -- the sum of the column at a place
  Sum : ℕ → Summed → Accumulator
  -- the least and the greatest value of the column at a place, once there is a row
  Min : ℕ → Option Scalar → Accumulator
  Max : ℕ → Option Scalar → Accumulator
