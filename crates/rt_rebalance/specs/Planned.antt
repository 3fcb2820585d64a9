-- The plan that is made: in each step as many instances as may leave a segment leave it, the lowest first, and as many
-- come, the lowest first.
use Rattle.std.specs.Prelude.{◌≡◌, ℕ, suc, ◌+◌, ◌-◌, ◌/◌, ◌==◌, Bool, true, nat_lt, nat_le, max, List, [], ◌∷◌, ◌++◌, map, filter, length, if◌then◌else◌, Option, Some, None, Result, Ok, Err}
use Rattle.std.specs.List.{range_with_len}
use Rattle.rt_model.specs.declared.ideal_state.IdealEntry.{IdealEntry}
use Rattle.rt_model.specs.declared.ideal_state.IdealState.{IdealState}
use Rattle.rt_rebalance.specs.declared.rebalance_refused.RebalanceRefused.{RebalanceRefused}
use Rattle.rt_rebalance.specs.declared.rebalance_refused.RebalanceRefused.TheVariants.{Replicas, Keep, NotLoaded, Ended, Memory}
use Rattle.rt_rebalance.specs.declared.slot.Slot.{Slot}
use Rattle.rt_rebalance.specs.declared.slot.Turn.{Turn}
use Rattle.rt_rebalance.specs.declared.slot.Turn.TheVariants.{Stays, Leaves, Comes}
use Rattle.rt_rebalance.specs.Refused.{refused_of}
use Rattle.rt_rebalance.specs.Segments.{Segment, segments_of, is_moved}

-- whether an entry is there after so many steps
abbrev pub is_there : ℕ → Turn → Bool
is_there steps Stays = true
is_there steps (Leaves step) = nat_lt steps step
is_there steps (Comes step) = nat_le step steps

abbrev pub entries_at : ℕ → List Slot → List IdealEntry
entries_at steps slots = map (λ slot. slot.entry) (filter (λ slot. is_there steps slot.turn) slots)

abbrev pub slot : IdealEntry → Turn → Slot
slot entry turn = record { entry = entry; turn = turn }

-- the step of one that comes behind this many others, `pace` of which take a step together
abbrev pub step_of : ℕ → ℕ → ℕ
step_of pace earlier = earlier / pace + 1

-- the instances of a moved segment and of its goal, ascending, where this many have left and come before
abbrev pub lined_up : ℕ → ℕ → ℕ → Segment → Segment → List Slot
lined_up pace left come [] [] = []
lined_up pace left come [] (f ∷ fs) = slot f (Comes (step_of pace come)) ∷ lined_up pace left (come + 1) [] fs
lined_up pace left come (e ∷ es) [] = slot e (Leaves (step_of pace left)) ∷ lined_up pace (left + 1) come es []
lined_up pace left come (e ∷ es) (f ∷ fs) =
    if e.instance.0 == f.instance.0 then slot e Stays ∷ lined_up pace left come es fs
    else (if nat_lt e.instance.0 f.instance.0 then slot e (Leaves (step_of pace left)) ∷ lined_up pace (left + 1) come es (f ∷ fs)
    else slot f (Comes (step_of pace come)) ∷ lined_up pace left (come + 1) (e ∷ es) fs)

-- how many instances of a segment may leave it in one step
abbrev pub pace_of : ℕ → Segment → ℕ
pace_of keep now = max 1 (length now - keep)

-- the instances of a segment that isn't moved
abbrev pub stays_in : Segment → List Slot
stays_in now = map (λ e. slot e Stays) now

abbrev pub slots_of_segment : ℕ → Segment → Segment → List Slot
slots_of_segment keep now goal = if is_moved now goal then lined_up (pace_of keep now) 0 0 now goal else stays_in now

abbrev pub slots_of_segments : ℕ → List Segment → List Segment → List Slot
slots_of_segments keep [] goals = []
slots_of_segments keep (now ∷ later) [] = []
slots_of_segments keep (now ∷ later) (goal ∷ goals) = slots_of_segment keep now goal ++ slots_of_segments keep later goals

abbrev pub slots_of : ℕ → List IdealEntry → List IdealEntry → List Slot
slots_of keep now goal = slots_of_segments keep (segments_of now) (segments_of goal)

abbrev pub last_step : Turn → ℕ
last_step Stays = 0
last_step (Leaves step) = step
last_step (Comes step) = step

-- the number of steps: the last one in which an instance leaves or comes
abbrev pub steps_of : List Slot → ℕ
steps_of [] = 0
steps_of (slot ∷ slots) = max (last_step slot.turn) (steps_of slots)

abbrev pub state_at : List Slot → ℕ → IdealState
state_at slots steps = record { entries = entries_at steps slots }

abbrev pub states_of : List Slot → List IdealState
states_of slots = map (state_at slots) (range_with_len 0 (suc (steps_of slots)))

abbrev pub plan_of : ℕ → List IdealEntry → List IdealEntry → List IdealState
plan_of keep now goal = states_of (slots_of keep now goal)

abbrev pub is_planned : Option RebalanceRefused → List IdealState → Result (List IdealState) RebalanceRefused
is_planned None states = Ok states
is_planned (Some refused) states = Err refused

-- the plan, or why it is refused, unless memory ran out
abbrev pub Plans : Result (List IdealState) RebalanceRefused → Result (List IdealState) RebalanceRefused → Type 0
Plans wanted (Ok states) = Ok states ≡ wanted
Plans wanted (Err Memory) = Unit {0}
Plans wanted (Err (Replicas partition sequence)) = Err (Replicas partition sequence) ≡ wanted
Plans wanted (Err (Keep partition sequence)) = Err (Keep partition sequence) ≡ wanted
Plans wanted (Err (NotLoaded partition sequence instance)) = Err (NotLoaded partition sequence instance) ≡ wanted
Plans wanted (Err Ended) = Err Ended ≡ wanted

abbrev pub planned : ℕ → List IdealEntry → List IdealEntry → Result (List IdealState) RebalanceRefused
planned keep now goal = is_planned (refused_of keep now goal) (plan_of keep now goal)
