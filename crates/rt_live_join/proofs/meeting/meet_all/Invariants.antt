use Rattle.std.proofs.Common.{◌≡◌, length, map}
use Rattle.std.specs.Vec.Iter.{into_iter_items, into_iter_len}
use Rattle.rt_live_names.specs.Fronts.{Fronts}
use Rattle.rt_live_join.specs.Left.{fronts_by}
use Rattle.rt_live_join.specs.Meeting.{MeetsAll}
use Rattle.rt_live_join.proofs.meeting.meet_all.Given as goal

-- what takes in those that are left has taken in all
abbrev pub invariant-loop-other : goal.invariant-loop-other
invariant-loop-other g l = record {
  left : into_iter_len l.other-iterator ≡ length (into_iter_items l.other-iterator);
  meets : (new : Fronts) → MeetsAll (fronts_by l.caller) (map fronts_by (into_iter_items l.other-iterator)) new
      → MeetsAll (fronts_by l.fn.caller) (map fronts_by l.fn.others.items) new;
}
