use Rattle.std.proofs.Common.{◌≡◌, ◌<◌, ◌≤◌, drop, length}
use Rattle.rt_consumer.specs.Batch.{filled, without}
use Rattle.rt_consumer.specs.Consumer.{HaveColumns}
use Rattle.rt_consumer.proofs.unsealed.fill.Given as goal

-- what is left to fill, and how to take back what was filled
abbrev pub invariant-loop-place : goal.invariant-loop-place
invariant-loop-place l = record {
  columns : HaveColumns l.settings l.rows;
  room : length l.rows.rows < l.limit;
  ordered : l.initial.rows.start.0 ≤ l.initial.rows.end.0;
  onward : l.initial.rows.end.0 ≤ l.rows.end.0;
  left : filled l.settings.schema l.limit l.rows (drop l.place l.messages) ≡ filled l.settings.schema l.limit l.initial.rows l.messages;
  back : without l.initial.rows.end l.rows ≡ l.initial.rows;
}
