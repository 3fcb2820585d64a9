use Rattle.std.proofs.Common.{◌≡◌, ◌+◌, ◌≤◌, length, drop}
use Rattle.rt_views.specs.Placing.{put_from}
use Rattle.rt_views.proofs.latest_view.put_rows.Given as goal

abbrev pub invariant-loop-row : goal.invariant-loop-row
invariant-loop-row l = record {
  place : l.number ≡ l.row-index;
  rest : put_from l.sequence l.number l.upsert (drop l.row-index l.rows) ≡ put_from l.sequence 0 l.fn.upsert l.rows;
  kinds : l.upsert.kinds ≡ l.fn.upsert.kinds;
  few : length l.upsert.rows + length (drop l.row-index l.rows) ≤ 4611686018427387904;
}
