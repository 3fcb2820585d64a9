use Rattle.std.proofs.Common.{◌≡◌, ◌++◌, take, string_bytes}
use Rattle.rt_live_output.specs.Texts.{between, queue_lines}
use Rattle.rt_live_output.proofs.queues.write_queues.Given as goal

abbrev pub invariant-loop-sender : goal.invariant-loop-sender
invariant-loop-sender l = string_bytes l.out ≡ string_bytes l.initial.out ++ queue_lines (between l.from l.to) (take l.sender l.queues)
