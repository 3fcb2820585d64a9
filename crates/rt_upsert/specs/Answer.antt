-- Groups to which a row is added where it counts.
use Rattle.std.specs.Prelude.{◌+◌, ◌<◌, Bool, ◌&&◌, List, [], ◌∷◌, ◌++◌, length, if◌then◌else◌}
use Rattle.rt_schema.specs.declared.row.Row.{Row}
use Rattle.rt_model.specs.declared.query.Query.{Query}
use Rattle.rt_model.specs.Match.{passes}
use Rattle.rt_agg.specs.Grouped.{Grouped, Fits, Holds}

-- the groups of a query hold one row more, where it is shown and the query takes it
abbrev pub AddsIf : Bool → Query → Row → Grouped → Grouped → Type 0
AddsIf shown query row old new =
    (rows : List Row)
    → Holds query rows old
    → Fits query row
    → length rows + 1 < 9223372036854775808
    → Holds query (if shown && passes query.filter row then rows ++ row ∷ [] else rows) new
