use Rattle.std.proofs.Common.{◌≡◌, ◌-◌, ◌≤◌, length, take}
use Rattle.rt_base.specs.Sink.{added}
use Rattle.rt_writing.proofs.writing.write_all.Given as goal

abbrev pub invariant-loop-done : goal.invariant-loop-done
invariant-loop-done g l =
    let start = g.K.Sink.meaning l.initial.sink in let now = g.K.Sink.meaning l.sink in
    record { within : l.done ≤ length l.piece; taken : now.taken ≡ added start.taken (take l.done l.piece); counts : start.faults ≤ now.faults }

abbrev pub decreases-loop-done : goal.decreases-loop-done
decreases-loop-done g l = length l.piece - l.done
