-- Which plans are refused, and why.
use Rattle.std.specs.Prelude.{ℕ, ◌==◌, nat_le, List, [], ◌∷◌, length, Option, Some, None, if◌then◌else◌}
use Rattle.rt_model.specs.declared.ideal_state.IdealEntry.{IdealEntry}
use Rattle.rt_rebalance.specs.declared.rebalance_refused.RebalanceRefused.{RebalanceRefused}
use Rattle.rt_rebalance.specs.declared.rebalance_refused.RebalanceRefused.TheVariants.{Replicas, Keep, NotLoaded, Ended, Memory}
use Rattle.rt_rebalance.specs.Segments.{Segment, segments_of, is_moved}

abbrev pub number_of : RebalanceRefused → Option ℕ
number_of (Replicas partition sequence) = Some 1
number_of (Keep partition sequence) = Some 2
number_of (NotLoaded partition sequence instance) = Some 3
number_of Ended = Some 4
number_of Memory = None

-- why a moved segment can't be moved
abbrev pub refused_moved : ℕ → IdealEntry → Segment → Segment → Option RebalanceRefused
refused_moved keep e now goal =
    if length now == length goal then (if nat_le (length now) keep then Some (Keep e.partition e.sequence) else None)
    else Some (Replicas e.partition e.sequence)

abbrev pub refused_segment : ℕ → Segment → Segment → Option RebalanceRefused
refused_segment keep [] goal = None
refused_segment keep (e ∷ es) goal = if is_moved (e ∷ es) goal then refused_moved keep e (e ∷ es) goal else None

abbrev pub first_refused : Option RebalanceRefused → Option RebalanceRefused → Option RebalanceRefused
first_refused None later = later
first_refused (Some refused) later = Some refused

-- the refusal of the first segment that has one
abbrev pub refused_segments : ℕ → List Segment → List Segment → Option RebalanceRefused
refused_segments keep [] goals = None
refused_segments keep (now ∷ later) [] = None
refused_segments keep (now ∷ later) (goal ∷ goals) = first_refused (refused_segment keep now goal) (refused_segments keep later goals)

abbrev pub refused_of : ℕ → List IdealEntry → List IdealEntry → Option RebalanceRefused
refused_of keep now goal = refused_segments keep (segments_of now) (segments_of goal)
