-- Groups that take more rows.
use Rattle.std.specs.Prelude.{◌+◌, ◌<◌, ◌++◌, List, length}
use Rattle.rt_schema.specs.declared.row.Row.{Row}
use Rattle.rt_model.specs.declared.query.Query.{Query}
use Rattle.rt_agg.specs.Grouped.{Grouped, Holds}

-- of groups that hold any rows of a query came those that hold these too
abbrev pub AddsRows : Query → List Row → Grouped → Grouped → Type 0
AddsRows query more old new =
    (rows : List Row) → Holds query rows old → length rows + length more < 9223372036854775808 → Holds query (rows ++ more) new
