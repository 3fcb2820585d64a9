-- The two sides of the boundary, and the hybrid answer.
use Rattle.std.specs.Prelude.{◌≡◌, ℕ, ℤ, Bool, true, false, List, ◌++◌, length, map, filter, All, Option, Some, None, int_le, int_lt}
use Rattle.std.specs.List.{range_with_len}
use Rattle.rt_schema.specs.declared.row.Row.{Row}
use Rattle.rt_model.specs.declared.answer.Answer.{Answer}
use Rattle.rt_model.specs.declared.query.Query.{Query}
use Rattle.rt_model.specs.Aggregate.{aggregate}
use Rattle.rt_model.specs.RightAnswer.{Routed, IsServed, named_ranges, missing_of, rows_of}
use Rattle.rt_hybrid.specs.Table.{OfflineTable, boundary_of, offline_rows, time_of}

-- the offline side: a time at or before the boundary
abbrev pub is_before : Option ℤ → ℤ → Bool
is_before None time = false
is_before (Some boundary) time = int_le time boundary

-- the realtime side: a time past the boundary, or any where there is none
abbrev pub is_past : Option ℤ → ℤ → Bool
is_past None time = true
is_past (Some boundary) time = int_lt boundary time

abbrev pub is_offline_row : OfflineTable → Row → Bool
is_offline_row table row = is_before (boundary_of table) (time_of table.time row)

abbrev pub is_realtime_row : OfflineTable → Row → Bool
is_realtime_row table row = is_past (boundary_of table) (time_of table.time row)

-- the offline rows that count
abbrev pub offline_side : OfflineTable → List Row
offline_side table = filter (is_offline_row table) (offline_rows table)

-- the realtime rows that count
abbrev pub realtime_side : OfflineTable → List Row → List Row
realtime_side table rows = filter (is_realtime_row table) rows

-- the rows of both sides
abbrev pub hybrid_rows : OfflineTable → List Row → List Row
hybrid_rows table rows = offline_side table ++ realtime_side table rows

-- an answer to a query over both sides is right for what came of each partition, over a log: it names what was served and
-- what wasn't, and aggregates the offline rows at or before the boundary and the rows of the ranges that it names past it
pub record IsHybridAnswer (table : OfflineTable) (log : List (List (List ℕ))) (query : Query) (routed : List Routed) (answer : Answer) : Type 0 where
  pub partitions : map (λ r. r.partition.0) routed ≡ range_with_len 0 (length log)
  pub served : All (IsServed log) routed
  pub ranges : answer.ranges ≡ named_ranges routed
  pub missing : answer.missing ≡ missing_of routed
  pub rows : answer.rows ≡ aggregate query (hybrid_rows table (rows_of table.schema log answer.ranges))
