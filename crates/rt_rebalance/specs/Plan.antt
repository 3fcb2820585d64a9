-- What a plan is.
use Rattle.std.specs.Prelude.{◌≡◌, ℕ, ◌≤◌, Bool, true, false, List, [], ◌∷◌, length}
use Rattle.rt_model.specs.declared.ideal_state.IdealEntry.{IdealEntry}
use Rattle.rt_model.specs.declared.ideal_state.IdealState.{IdealState}
use Rattle.rt_rebalance.specs.Segments.{Segment, segments_of, is_moved, kept_in, AreAscending}
use Rattle.rt_rebalance.specs.Target.{IsGoal}

-- a segment in a state of the plan: ONLINE where it was, and else as it was, on as many instances, each once
abbrev pub IsStage : Segment → Segment → Type 0
IsStage now stage = IsGoal now stage × (length stage ≡ length now) × AreAscending stage

abbrev pub AreStages : List Segment → List Segment → Type 0
AreStages [] [] = Unit {0}
AreStages [] (stage ∷ stages) = ⊥
AreStages (now ∷ later) [] = ⊥
AreStages (now ∷ later) (stage ∷ stages) = IsStage now stage × AreStages later stages

-- at least `keep` instances stay, or all is as it was
abbrev pub KeepsOrStays : Bool → ℕ → Segment → Segment → Type 0
KeepsOrStays true keep old new = keep ≤ length (kept_in old new)
KeepsOrStays false keep old new = new ≡ old

-- from one state to the next at least `keep` instances of a moved segment stay, and one that isn't moved stays as it is
abbrev pub Keeps : ℕ → Segment → Segment → Segment → Segment → Type 0
Keeps keep now goal old new = KeepsOrStays (is_moved now goal) keep old new

abbrev pub AllKeep : ℕ → List Segment → List Segment → List Segment → List Segment → Type 0
AllKeep keep (now ∷ later) (goal ∷ goals) (old ∷ olds) (new ∷ news) = Keeps keep now goal old new × AllKeep keep later goals olds news
AllKeep keep nows goals olds news = Unit {0}

-- a state of the plan from `now`
abbrev pub IsState : List IdealEntry → List IdealEntry → Type 0
IsState now state = AreStages (segments_of now) (segments_of state)

-- the states that follow one, up to the goal
abbrev pub LeadsTo : ℕ → List IdealEntry → List IdealEntry → List IdealEntry → List IdealState → Type 0
LeadsTo keep now goal state [] = state ≡ goal
LeadsTo keep now goal state (next ∷ states) =
    IsState now next.entries × AllKeep keep (segments_of now) (segments_of goal) (segments_of state) (segments_of next.entries)
    × LeadsTo keep now goal next.entries states

-- a list of states from `now` to `goal` in which each segment has its number of instances, and at least `keep` of them, or all
-- where it isn't moved, are in the next state as well
abbrev pub IsRebalancePlan : ℕ → List IdealEntry → List IdealEntry → List IdealState → Type 0
IsRebalancePlan keep now goal [] = ⊥
IsRebalancePlan keep now goal (first ∷ states) = (first.entries ≡ now) × IsState now now × LeadsTo keep now goal now states
