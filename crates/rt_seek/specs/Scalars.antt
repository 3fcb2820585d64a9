-- The whole numbers in a column.
use Rattle.std.specs.Prelude.{ℕ, List, map, Option}
use Rattle.rt_schema.specs.declared.value.Value.{Value}
use Rattle.rt_agg.specs.declared.scalar.Scalar.{Scalar}
use Rattle.rt_agg.specs.Reading.{scalar_of}
use Rattle.rt_seek.specs.Table.{item_at}

-- the whole number in a row; none past the last row
abbrev pub scalar_on : List Value → ℕ → Option Scalar
scalar_on values row = scalar_of (item_at values row)

-- the values that ids stand for
abbrev pub led : List Value → List ℕ → List Value
led values ids = map (λ id. item_at values id) ids
