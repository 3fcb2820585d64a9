-- A query over the files: what it asks of a row, and that its time is at or before the boundary.
use Rattle.std.specs.Prelude.{ℤ, ◌∷◌, [], Option, Some, None}
use Rattle.rt_model.specs.declared.query.Query.{Query}
use Rattle.rt_model.specs.declared.query_parts.ColumnAt.{ColumnAt}
use Rattle.rt_model.specs.declared.query_parts.Comparison.TheVariants.{AtMost}
use Rattle.rt_model.specs.declared.query_parts.Literal.TheVariants as literal
use Rattle.rt_model.specs.Tree.{Tree, Compare, And, trees}

abbrev pub time_at_most : ColumnAt → ℤ → Tree
time_at_most column boundary = Compare column AtMost (literal.Int boundary)

abbrev pub and_time : Option Tree → Tree → Tree
and_time None time = time
and_time (Some filter) time = And (trees (time ∷ (filter ∷ [])))

abbrev pub timed : Query → ColumnAt → ℤ → Query
timed query column boundary = record query { filter = Some (and_time query.filter (time_at_most column boundary)) }
