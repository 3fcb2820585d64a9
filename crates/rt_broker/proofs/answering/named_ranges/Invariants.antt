use Rattle.std.proofs.Common.{◌≡◌, ◌++◌, drop}
use Rattle.rt_model.specs.RightAnswer.{named_ranges}
use Rattle.rt_broker.specs.Answering.{routed_from}
use Rattle.rt_broker.proofs.answering.named_ranges.Given as goal

abbrev pub invariant-loop-number : goal.invariant-loop-number
invariant-loop-number l = l.named ++ named_ranges (routed_from l.number (drop l.number l.routes)) ≡ named_ranges (routed_from 0 l.routes)
