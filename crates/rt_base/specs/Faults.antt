-- The faults that calls of an outside object meet, and what becomes of such a call.
use Rattle.std.specs.Prelude.{ℕ, ◌+◌, ◌<◌, ◌≤◌, List, [], ◌∷◌, drop, Bool, true, false, Result, Err}
use Rattle.rt_base.specs.declared.fault.Fault.{Fault}
use Rattle.rt_base.specs.declared.fault.Fault.TheVariants.{Nothing, Lost, Kept}

-- the faults that are planned, in order (true where the call is carried out first), and how many were met
pub record Planned : Type 0 where
  pub plan : List Bool
  pub met : ℕ

-- the fault that the next call meets: the first that is planned
abbrev pub fault_of : List Bool → Fault
fault_of [] = Nothing
fault_of (true ∷ plan) = Kept
fault_of (false ∷ plan) = Lost

-- one fault more was met
abbrev pub one_met : Planned → Planned
one_met p = record { plan = drop 1 p.plan; met = p.met + 1 }

abbrev pub met_by : Fault → Planned → Planned
met_by Nothing p = p
met_by Lost p = one_met p
met_by Kept p = one_met p

-- what is planned once the next call has met its fault
abbrev pub met_fault : Planned → Planned
met_fault p = met_by (fault_of p.plan) p

-- a fault raises the count, which never falls
abbrev pub Counts : ℕ → ℕ → Fault → Type 0
Counts before now Nothing = before ≤ now
Counts before now Lost = before < now
Counts before now Kept = before < now

-- what a call answers that would give this answer: a fault is told in its place
abbrev pub answer_under : {X E : Type 0} → E → Fault → Result X E → Result X E
answer_under failed Nothing answer = answer
answer_under failed Lost answer = Err failed
answer_under failed Kept answer = Err failed

-- what is there after a call that found the one, and that would leave the other
abbrev pub left_under : {X : Type 0} → Fault → X → X → X
left_under Nothing base after = after
left_under Lost base after = base
left_under Kept base after = after
