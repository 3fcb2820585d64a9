use Rattle.std.proofs.Common.{◌≡◌, ◌++◌, option_map, drop}
use Rattle.rt_schema.specs.Json.{map_all}
use Rattle.rt_schema.specs.Field.{column_of}
use Rattle.rt_schema.proofs.schema_reader.columns_of.Given as goal

abbrev pub invariant-loop-field : goal.invariant-loop-field
invariant-loop-field l = map_all column_of l.fields ≡ option_map (λ later. l.columns ++ later) (map_all column_of (drop l.field-index l.fields))
