use Rattle.std.proofs.Common.{◌≡◌, drop}
use Rattle.std.specs.List.{list_any}
use Rattle.rt_pause.specs.Forced.{is_open}
use Rattle.rt_pause.proofs.force_job.has_open.Given as goal

abbrev pub invariant-loop-node : goal.invariant-loop-node
invariant-loop-node l = list_any (is_open l.sequence) (drop l.node-index l.listed) ≡ list_any (is_open l.sequence) l.listed
