-- What the input of a running cluster comes to: its messages by partition, and the rows of all of them.
use Rattle.std.specs.Prelude.{ℕ, ◌==◌, List, [], ◌∷◌, ◌++◌, map, filter_map}
use Rattle.std.specs.List.{filter}
use Rattle.rt_base.specs.declared.numbers.Partition.{Partition}
use Rattle.rt_ground.specs.declared.appended.Appended.{Appended}
use Rattle.rt_schema.specs.Row.{row_of}
use Rattle.rt_schema.specs.declared.row.Row.{Row}
use Rattle.rt_schema.specs.declared.schema.Schema.{Schema}
use Rattle.rt_stream.specs.Log.{Log}

-- the messages of a partition, in input order
abbrev pub messages_to : Partition → List Appended → List (List ℕ)
messages_to p rows = map (λ (a : Appended). a.message) (filter (λ (a : Appended). a.partition.0 == p.0) rows)

-- the rows of all messages of a log, by partition
abbrev pub all_rows : Schema → Log → List Row
all_rows schema [] = []
all_rows schema (messages ∷ log) = filter_map (row_of schema) messages ++ all_rows schema log
