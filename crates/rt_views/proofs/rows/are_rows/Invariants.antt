use Rattle.std.proofs.Common.{◌≡◌, drop}
use Rattle.std.specs.List.{list_all}
use Rattle.rt_views.specs.Views.{is_row_of}
use Rattle.rt_views.proofs.rows.are_rows.Given as goal

abbrev pub invariant-loop-row : goal.invariant-loop-row
invariant-loop-row l = list_all (is_row_of l.schema) (drop l.row-index l.rows) ≡ list_all (is_row_of l.schema) l.rows
