use Rattle.std.proofs.Common.{◌≡◌, ◌++◌}
use Rattle.std.specs.Prelude.{map}
use Rattle.std.specs.Vec.Iter.{into_iter_items}
use Rattle.rt_live_controller.specs.Did.{line_from}
use Rattle.rt_live_controller.proofs.heard_journal.HeardJournal.into_heard.Given as goal

-- the lines so far, and those of the requests that are left, are those of all
abbrev pub invariant-loop-request : goal.invariant-loop-request
invariant-loop-request l =
    (goal.iterator-loop-request).can_next l.request-iterator
    × (goal.iterator-loop-request).is_finite l.request-iterator
    × (l.lines.items ++ map (line_from l.ended.items) (into_iter_items l.request-iterator) ≡ map (line_from l.fn.self.ended.items) l.fn.self.heard.items)
