-- The rows of each value of an indexed column.
use Rattle.std.specs.Prelude.{ℕ, List, [], length, Option, Some, None, slice_index_or}
use Rattle.rt_schema.specs.declared.value.Value.{Value}
use Rattle.rt_mutable.specs.Arrivals.{arrivals_of, ids_of}
use Rattle.rt_mutable.specs.Column.{same_value}
use Rattle.rt_mutable.specs.RowLists.{AreRowsById}

-- the lists, where a column keeps them, are the rows of each of its values
abbrev pub IsIndex : Option (List (List ℕ)) → List Value → Type 0
IsIndex None values = Unit {0}
IsIndex (Some lists) values = AreRowsById lists (ids_of same_value values) (length (arrivals_of same_value values))

-- the rows at an id, and none where there is no id
abbrev pub rows_found : List (List ℕ) → Option ℕ → List ℕ
rows_found lists None = []
rows_found lists (Some id) = slice_index_or lists id []
