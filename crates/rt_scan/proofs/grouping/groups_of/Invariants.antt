use Rattle.std.proofs.Common.{◌≤◌, ◌-◌, filter, take, length}
use Rattle.rt_model.specs.Match.{passes}
use Rattle.rt_seek.specs.Table.{row_at, rows_by}
use Rattle.rt_scan.specs.Grouping.{HoldsOrAwaits, Leads}
use Rattle.rt_scan.proofs.grouping.groups_of.Given as goal

abbrev pub decreases-loop-row : goal.decreases-loop-row
decreases-loop-row g l = length l.set - l.from

-- the groups hold what is taken of the rows before this one, but for those that the page lists
abbrev pub invariant-loop-row : goal.invariant-loop-row
invariant-loop-row g l = record {
  listed : HoldsOrAwaits l.query (row_at g.C.ScanColumn.values l.columns) (filter (passes l.query.filter) (take l.from (rows_by g.C.ScanColumn.values l.columns (length l.set)))) l.page.items l.groups;
  met : Leads g.C.ScanColumn.value_of l.columns l.query.groups l.groups l.met;
  within : l.from ≤ length l.set;
}
