use Rattle.std.proofs.Common.{◌≡◌, ◌++◌, drop}
use Rattle.rt_model.specs.RightAnswer.{missing_of}
use Rattle.rt_broker.specs.Answering.{routed_from}
use Rattle.rt_broker.proofs.answering.missing_of.Given as goal

abbrev pub invariant-loop-number : goal.invariant-loop-number
invariant-loop-number l = l.missing ++ missing_of (routed_from l.number (drop l.number l.routes)) ≡ missing_of (routed_from 0 l.routes)
