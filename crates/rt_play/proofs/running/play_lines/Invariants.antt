use Rattle.std.proofs.Common.{◌≡◌, ℕ, ◌+◌, ◌^◌, ◌<◌, ◌++◌, false, List, length}
use Rattle.std.specs.List.{concat}
use Rattle.rt_desk.specs.IsDesk.{IsDesk}
use Rattle.rt_lines.specs.Header.{NumberedLine}
use Rattle.rt_play.specs.Plays.{going}
use Rattle.rt_writing.specs.Writing.{Puts}
use Rattle.rt_play.specs.Report.{RunAll}
use Rattle.rt_safety.specs.Runs.{Turn}
use Rattle.rt_play.proofs.running.play_lines.Given as goal
use Rattle.rt_state.specs.IsSafeWorld.{IsSafeWorld}

abbrev pub invariant-loop-number : goal.invariant-loop-number
invariant-loop-number g l = record {
  unspent : l.world.spent ≡ false;
  safe : IsSafeWorld l.world.state;
  desk : IsDesk l.world.state.setup.schema l.desk;
  written : List (List ℕ);
  done : List NumberedLine;
  puts : Puts (g.K.Sink.meaning l.initial.sink) (g.K.Sink.meaning l.sink) (concat written);
  whole : l.initial.lines.lines ≡ done ++ l.lines.lines;
  turns : List Turn;
  run : RunAll done (going l.initial.world l.initial.desk) turns (going l.world l.desk) written;
  count : l.count ≡ length written;
  few : l.count + length l.lines.lines < 2 ^ 64;
}

abbrev pub decreases-loop-number : goal.decreases-loop-number
decreases-loop-number g l = length l.lines.lines
