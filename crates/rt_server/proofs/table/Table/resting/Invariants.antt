use Rattle.std.proofs.Common.{◌≡◌, ◌+◌, drop}
use Rattle.std.specs.List.{prefix_len}
use Rattle.rt_server.specs.Resting.{IsWalk, rests_at}
use Rattle.rt_server.proofs.table.Table.resting.Given as goal

abbrev pub invariant-loop-passed : goal.invariant-loop-passed
invariant-loop-passed l = record {
  walks : IsWalk l.self l.walk;
  rested : l.passed + prefix_len (rests_at l.self) (drop l.passed l.segments) ≡ prefix_len (rests_at l.self) l.segments;
}
