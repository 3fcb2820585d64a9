-- Where the segments are to be.
use Rattle.std.specs.Prelude.{◌≡◌, ℕ, Bool, true, false, List, [], ◌∷◌, ◌++◌, map, if◌then◌else◌}
use Rattle.std.specs.List.{AllByRecursion}
use Rattle.rt_assign.specs.Placement.{replicas_of}
use Rattle.rt_model.specs.declared.ideal_state.IdealEntry.{IdealEntry}
use Rattle.rt_model.specs.declared.ideal_state.Mode.TheVariants.{Online}
use Rattle.rt_model.specs.Ideal.{with_consuming}
use Rattle.rt_model.specs.Order.{IsAscending}
use Rattle.rt_rebalance.specs.Segments.{Segment, segments_of, is_beside, are_online, AreAscending}

abbrev pub turned_online : IdealEntry → IdealEntry
turned_online e = record e { mode = Online }

-- the segment ONLINE on the replicas of its partition, ascending
abbrev pub placed : ℕ → ℕ → IdealEntry → Segment
placed replication servers e = map turned_online (with_consuming [] e.partition e.sequence (replicas_of e.partition replication servers))

-- a segment whose entries are all ONLINE goes to its replicas, and any other stays
abbrev pub target_segment : ℕ → ℕ → Segment → Segment
target_segment replication servers [] = []
target_segment replication servers (e ∷ es) = if are_online (e ∷ es) then placed replication servers e else e ∷ es

abbrev pub target_segments : ℕ → ℕ → List Segment → List IdealEntry
target_segments replication servers [] = []
target_segments replication servers (segment ∷ segments) = target_segment replication servers segment ++ target_segments replication servers segments

abbrev pub target_of : ℕ → ℕ → List IdealEntry → List IdealEntry
target_of replication servers es = target_segments replication servers (segments_of es)

-- ONLINE too, or the same
abbrev pub IsOnlineOrSame : Bool → Segment → Segment → Type 0
IsOnlineOrSame true now goal = are_online goal ≡ true
IsOnlineOrSame false now goal = goal ≡ now

-- two lists of entries of the same segment, in which the second has it ONLINE where the first has, and is else the same
abbrev pub IsGoal : Segment → Segment → Type 0
IsGoal [] goal = ⊥
IsGoal (e ∷ es) [] = ⊥
IsGoal (e ∷ es) (f ∷ fs) = (is_beside e f ≡ true) × IsOnlineOrSame (are_online (e ∷ es)) (e ∷ es) (f ∷ fs)

abbrev pub AreGoals : List Segment → List Segment → Type 0
AreGoals [] [] = Unit {0}
AreGoals [] (goal ∷ goals) = ⊥
AreGoals (now ∷ later) [] = ⊥
AreGoals (now ∷ later) (goal ∷ goals) = IsGoal now goal × AreGoals later goals

-- a target has the segments of the state, ONLINE where these are, each instance once, and all other entries as they are
pub record IsTarget (now goal : List IdealEntry) : Type 0 where
  pub now_ascends : IsAscending now
  pub goal_ascends : AllByRecursion AreAscending (segments_of goal)
  pub goals : AreGoals (segments_of now) (segments_of goal)
