-- A plan that is rehearsed: the present state, and which of its instances still have to load their segments.
use Rattle.std.specs.Prelude.{◌≡◌, ℕ, ◌+◌, ◌≤◌, length, Bool, true, false, not, ◌&&◌, List, [], ◌∷◌, filter, Option, Some, None, slice_get, if◌then◌else◌, Result, Ok, Err}
use Rattle.std.specs.List.{list_any}
use Rattle.rt_base.specs.declared.numbers.Partition.{Partition}
use Rattle.rt_base.specs.declared.numbers.Sequence.{Sequence}
use Rattle.rt_base.specs.declared.numbers.Instance.{Instance}
use Rattle.rt_model.specs.declared.ideal_state.IdealEntry.{IdealEntry}
use Rattle.rt_model.specs.declared.ideal_state.IdealState.{IdealState}
use Rattle.rt_model.specs.declared.ideal_state.Mode.{Mode}
use Rattle.rt_model.specs.Ideal.{is_of_instance, mode_of}
use Rattle.rt_rebalance.specs.declared.rebalance_refused.RebalanceRefused.{RebalanceRefused}
use Rattle.rt_rebalance.specs.declared.rebalance_refused.RebalanceRefused.TheVariants.{Replicas, Keep, NotLoaded, Ended, Memory}
use Rattle.rt_rebalance.specs.Segments.{Segment, is_online, is_moved, segments_of}

-- the states, the number of the present one, and its ONLINE entries whose instances haven't loaded the segment
pub record Rehearsed : Type 0 where
  pub states : List IdealState
  pub at : ℕ
  pub waiting : List IdealEntry

abbrev pub entries_in : Option IdealState → List IdealEntry
entries_in None = []
entries_in (Some state) = state.entries

abbrev pub entries_at : List IdealState → ℕ → List IdealEntry
entries_at states at = entries_in (slice_get states at)

abbrev pub is_online_mode : Option Mode → Bool
is_online_mode None = false
is_online_mode (Some mode) = is_online mode

-- an instance has the segment, in whatever mode
abbrev pub has_replica : List IdealEntry → IdealEntry → Bool
has_replica es e = list_any (is_of_instance e.partition e.sequence e.instance) es

-- at the first state each instance has loaded its segments
abbrev pub start_of : List IdealState → Rehearsed
start_of states = record { states = states; at = 0; waiting = [] }

abbrev pub is_online_at : Rehearsed → Partition → Sequence → Instance → Bool
is_online_at r p s i = is_online_mode (mode_of (entries_at r.states r.at) p s i)

-- the entries without the first of an instance and a segment
abbrev pub without : Partition → Sequence → Instance → List IdealEntry → List IdealEntry
without p s i [] = []
without p s i (e ∷ es) = if is_of_instance p s i e then es else (e ∷ without p s i es)

-- an instance that is ONLINE has loaded the segment
abbrev pub loaded : Partition → Sequence → Instance → Rehearsed → Rehearsed
loaded p s i r = if is_online_at r p s i then record r { waiting = without p s i r.waiting } else r

-- those that come with the next state: ONLINE ones that the state before doesn't have
abbrev pub coming : List IdealEntry → List IdealEntry → List IdealEntry
coming old new = filter (λ e. is_online e.mode && not (has_replica old e)) new

abbrev pub stepped : Rehearsed → IdealState → Rehearsed
stepped r next = record { states = r.states; at = r.at + 1; waiting = coming (entries_at r.states r.at) next.entries }

abbrev pub not_loaded : IdealEntry → RebalanceRefused
not_loaded e = NotLoaded e.partition e.sequence e.instance

abbrev pub step_from : Rehearsed → List IdealEntry → IdealState → Result Rehearsed RebalanceRefused
step_from r [] next = Ok (stepped r next)
step_from r (e ∷ es) next = Err (not_loaded e)

-- the next state, where there is one and each ONLINE instance of the present one has loaded its segment
abbrev pub step_to : Rehearsed → Option IdealState → Result Rehearsed RebalanceRefused
step_to r None = Err Ended
step_to r (Some next) = step_from r r.waiting next

abbrev pub step : Rehearsed → Result Rehearsed RebalanceRefused
step r = step_to r (slice_get r.states (r.at + 1))

-- a step was taken, or refused with all as before
abbrev pub Steps : Rehearsed → Rehearsed → Result ℕ RebalanceRefused → Type 0
Steps old new (Ok number) = (step old ≡ Ok new) × (number ≡ new.at)
Steps old new (Err Memory) = new ≡ old
Steps old new (Err Ended) = (step old ≡ Err Ended) × (new ≡ old)
Steps old new (Err (NotLoaded p s i)) = (step old ≡ Err (NotLoaded p s i)) × (new ≡ old)
Steps old new (Err (Replicas p s)) = (step old ≡ Err (Replicas p s)) × (new ≡ old)
Steps old new (Err (Keep p s)) = (step old ≡ Err (Keep p s)) × (new ≡ old)

-- what a rehearsal is asked for
pub data Call : Type 0 where
  loads : Partition → Sequence → Instance → Call
  steps : Call

-- a refused step changes nothing
abbrev pub after_step : Rehearsed → Result Rehearsed RebalanceRefused → Rehearsed
after_step r (Ok next) = next
after_step r (Err refused) = r

abbrev pub called : Call → Rehearsed → Rehearsed
called (loads p s i) r = loaded p s i r
called steps r = after_step r (step r)

abbrev pub after : List Call → Rehearsed → Rehearsed
after [] r = r
after (call ∷ calls) r = after calls (called call r)

abbrev pub is_waiting : List IdealEntry → IdealEntry → Bool
is_waiting waiting e = list_any (is_of_instance e.partition e.sequence e.instance) waiting

-- the available instances of a segment: those ONLINE in the present state and loaded
abbrev pub available_of : List IdealEntry → Segment → Segment
available_of waiting segment = filter (λ e. is_online e.mode && not (is_waiting waiting e)) segment

-- each moved segment has at least so many available instances
abbrev pub AllAvailable : ℕ → List IdealEntry → List Segment → List Segment → List Segment → Type 0
AllAvailable keep waiting [] goals stages = Unit {0}
AllAvailable keep waiting (now ∷ later) [] stages = Unit {0}
AllAvailable keep waiting (now ∷ later) (goal ∷ goals) [] = Unit {0}
AllAvailable keep waiting (now ∷ later) (goal ∷ goals) (stage ∷ stages) =
    (is_moved now goal ≡ true → keep ≤ length (available_of waiting stage)) × AllAvailable keep waiting later goals stages

abbrev pub IsAvailable : ℕ → List IdealEntry → List IdealEntry → Rehearsed → Type 0
IsAvailable keep now goal r = AllAvailable keep r.waiting (segments_of now) (segments_of goal) (segments_of (entries_at r.states r.at))
