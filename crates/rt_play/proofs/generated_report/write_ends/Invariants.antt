use Rattle.std.proofs.Common.{◌≡◌, ℕ, ◌-◌, ◌≤◌, ◌++◌, List}
use Rattle.std.specs.List.{concat}
use Rattle.rt_play.specs.Generating.{end_texts}
use Rattle.rt_writing.specs.Writing.{Puts}
use Rattle.rt_play.proofs.generated_report.write_ends.Given as goal

abbrev pub invariant-loop-at : goal.invariant-loop-at
invariant-loop-at g l = record {
  within : l.at ≤ l.partitions;
  written : List (List ℕ);
  whole : end_texts l.world.state 0 l.partitions ≡ written ++ end_texts l.world.state l.at (l.partitions - l.at);
  puts : Puts (g.K.Sink.meaning l.initial.sink) (g.K.Sink.meaning l.sink) (concat written);
}

abbrev pub decreases-loop-at : goal.decreases-loop-at
decreases-loop-at g l = l.partitions - l.at
