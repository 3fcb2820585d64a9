use Rattle.std.proofs.Common.{◌≡◌, ◌+◌, ◌≤◌, length, drop}
use Rattle.rt_views.specs.Placing.{put_all}
use Rattle.rt_views.specs.Views.{rows_found}
use Rattle.rt_views.proofs.latest_view.put_all.Given as goal

abbrev pub invariant-loop-piece : goal.invariant-loop-piece
invariant-loop-piece l = record {
  rest : put_all l.schema l.upsert (drop l.piece-index l.found) ≡ put_all l.schema l.fn.upsert l.found;
  kinds : l.upsert.kinds ≡ l.fn.upsert.kinds;
  few : length l.upsert.rows + length (rows_found l.schema (drop l.piece-index l.found)) ≤ 4611686018427387904;
}
