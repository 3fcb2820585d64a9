use Rattle.std.proofs.Common.{◌≡◌, ◌++◌, take, string_bytes}
use Rattle.rt_live_output.specs.Texts.{numbered_end, texts}
use Rattle.rt_live_output.proofs.output.write_ends.Given as goal

abbrev pub invariant-loop-partition : goal.invariant-loop-partition
invariant-loop-partition l = string_bytes l.out ≡ string_bytes l.initial.out ++ texts numbered_end (take l.partition l.ends)
