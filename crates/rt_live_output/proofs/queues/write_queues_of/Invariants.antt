use Rattle.std.proofs.Common.{◌≡◌, ◌++◌, take, string_bytes}
use Rattle.rt_live_output.specs.Texts.{between, queue_line, texts}
use Rattle.rt_live_output.proofs.queues.write_queues_of.Given as goal

abbrev pub invariant-loop-receiver : goal.invariant-loop-receiver
invariant-loop-receiver l = string_bytes l.out ≡ string_bytes l.initial.out ++ texts (queue_line (between l.from l.to) l.sender) (take l.receiver l.queues)
