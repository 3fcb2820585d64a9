use Rattle.std.proofs.Common.{◌≡◌, drop}
use Rattle.std.specs.List.{list_any}
use Rattle.rt_desk.specs.Forcing.{is_of}
use Rattle.rt_desk.proofs.counting.has_segment.Given as goal

abbrev pub invariant-loop-other : goal.invariant-loop-other
invariant-loop-other l = list_any (is_of l.replica) (drop l.other-index l.replicas) ≡ list_any (is_of l.replica) l.replicas
