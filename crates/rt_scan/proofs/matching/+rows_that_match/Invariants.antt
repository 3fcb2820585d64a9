use Rattle.std.proofs.Common.{◌≡◌, map, drop, length}
use Rattle.rt_postings.specs.DocSet.{both, either}
use Rattle.rt_model.specs.Match.{matches_all, matches_any}
use Rattle.rt_model.specs.Tree.{trees}
use Rattle.rt_seek.specs.Table.{rows_by}
use Rattle.rt_scan.proofs.matching.+rows_that_match.Given as goal

abbrev pub decreases-rows_that_match : goal.decreases-rows_that_match
decreases-rows_that_match g l = goal.size-rows_that_match g l

-- the rows so far that also meet the parts from this place on are those that meet all parts
abbrev pub invariant-loop-part : goal.invariant-loop-part
invariant-loop-part g l = record {
  met : both l.set (map (matches_all (trees (drop l.part-index l.part-items))) (rows_by g.C.ScanColumn.values l.columns l.rows)) ≡ map (matches_all (trees l.part-items)) (rows_by g.C.ScanColumn.values l.columns l.rows);
  count : length l.set ≡ l.rows;
}

-- the rows so far and those that meet a part from this place on are those that meet any part
abbrev pub invariant-loop-part-2 : goal.invariant-loop-part-2
invariant-loop-part-2 g l = record {
  met : either l.set (map (matches_any (trees (drop l.part-index l.part-items))) (rows_by g.C.ScanColumn.values l.columns l.rows)) ≡ map (matches_any (trees l.part-items)) (rows_by g.C.ScanColumn.values l.columns l.rows);
  count : length l.set ≡ l.rows;
}
