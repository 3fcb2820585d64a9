-- The rehearsal of a plan by which the segments of a world would move to a number of servers.
use Rattle.std.specs.Prelude.{◌≡◌, ◌&&◌, ◌-◌, nat_le, nat_lt, min, ℕ, Bool, true, false, not, List, length, Option, Some, None, is_none, Result, Ok, Err, unwrap_or, if◌then◌else◌}
use Rattle.std.specs.List.{count_by}
use Rattle.rt_base.specs.declared.limits.TheConstants.{MOST_SERVERS}
use Rattle.rt_base.specs.declared.numbers.Instance.{Instance}
use Rattle.rt_base.specs.declared.numbers.Partition.{Partition}
use Rattle.rt_base.specs.declared.numbers.Sequence.{Sequence}
use Rattle.rt_events.specs.declared.refusal.Refusal.{Refusal}
use Rattle.rt_events.specs.declared.refusal.Refusal.TheVariants.{NoSuchMessage, NoSuchNode, NodeDown, NothingToDo, Limit, Memory}
use Rattle.rt_model.specs.Ideal.{mode_of}
use Rattle.rt_model.specs.declared.ideal_state.IdealEntry.{IdealEntry}
use Rattle.rt_model.specs.declared.ideal_state.IdealState.{IdealState}
use Rattle.rt_rebalance.specs.Planned.{planned}
use Rattle.rt_rebalance.specs.Refused.{number_of}
use Rattle.rt_rebalance.specs.Rehearsed.{Rehearsed, entries_in, is_online_at, loaded, start_of, step}
use Rattle.rt_rebalance.specs.Replicas.{Replica, is_among as is_had}
use Rattle.rt_rebalance.specs.Target.{target_of}
use Rattle.rt_rebalance.specs.declared.rebalance_refused.RebalanceRefused.{RebalanceRefused}
use Rattle.rt_state.specs.Finding.{has_partition}
use Rattle.rt_world.specs.Reading.{ideal_in}
use Rattle.rt_state.specs.Room.{only_if}
use Rattle.rt_state.specs.declared.state.State.{State}
use Rattle.rt_dryrun.specs.declared.planned.Planned.{Planned}
use Rattle.rt_dryrun.specs.declared.planned.Planned.TheVariants as told
use Rattle.rt_dryrun.specs.declared.stepped.Stepped.{Stepped}
use Rattle.rt_dryrun.specs.declared.stepped.Stepped.TheVariants as went

-- a plan that is gone through: for how many servers it was made, the number of its steps, and how far it is
pub record Going : Type 0 where
  pub servers : ℕ
  pub steps : ℕ
  pub rehearsed : Rehearsed

-- ---- planning

-- the entries of the present ideal state, and where they are to be on so many servers
abbrev pub entries_now : State → List IdealEntry
entries_now w = entries_in (ideal_in w)

abbrev pub goal_of : State → ℕ → List IdealEntry
goal_of w servers = target_of w.setup.table.replication servers (entries_now w)

-- a number of 32 bits: the greatest for all that are above it
abbrev pub capped : ℕ → ℕ
capped keep = min keep 4294967295

-- whether an entry's instance comes: it hasn't the segment now
abbrev pub comes : List IdealEntry → IdealEntry → Bool
comes now e = is_none (mode_of now e.partition e.sequence e.instance)

abbrev pub moves_of : List IdealEntry → List IdealEntry → ℕ
moves_of now goal = count_by (comes now) goal

-- the same, by the replicas of the entries now
abbrev pub is_new : List Replica → IdealEntry → Bool
is_new had e = not (is_had had e.partition e.sequence e.instance)

-- the plan from the present ideal state, or why there is none
abbrev pub plan_in : State → ℕ → ℕ → Result (List IdealState) RebalanceRefused
plan_in w servers keep = planned keep (entries_now w) (goal_of w servers)

abbrev pub told_number : RebalanceRefused → ℕ
told_number refused = unwrap_or (number_of refused) 0

abbrev pub planned_as : ℕ → Result (List IdealState) RebalanceRefused → Planned
planned_as moves (Ok states) = told.Plan (length states - 1) moves
planned_as moves (Err refused) = told.Refused (told_number refused)

abbrev pub started : ℕ → List IdealState → Going
started servers states = record { servers = servers; steps = length states - 1; rehearsed = start_of states }

-- a plan takes the place of the one before it, and where there is none that one stays
abbrev pub going_on : ℕ → Option Going → Result (List IdealState) RebalanceRefused → Option Going
going_on servers old (Ok states) = Some (started servers states)
going_on servers old (Err refused) = old

-- from the number of replicas to the most servers that there can be
abbrev pub is_fit : State → ℕ → Bool
is_fit w servers = nat_le w.setup.table.replication servers && nat_le servers MOST_SERVERS

-- a refusal by its number; only want of memory has none
abbrev pub IsTold : RebalanceRefused → Result ℕ Refusal → Type 0
IsTold refused (Ok number) = number_of refused ≡ Some number
IsTold refused (Err Memory) = number_of refused ≡ None
IsTold refused (Err NoSuchMessage) = ⊥
IsTold refused (Err NoSuchNode) = ⊥
IsTold refused (Err NodeDown) = ⊥
IsTold refused (Err NothingToDo) = ⊥
IsTold refused (Err (Limit which)) = ⊥

-- what a plan comes to, unless memory ran out, and then all is as before
abbrev pub PlansBy : State → ℕ → ℕ → Option Going → Option Going → Result Planned Refusal → Type 0
PlansBy w servers keep old new (Ok planned) =
    (planned ≡ planned_as (moves_of (entries_now w) (goal_of w servers)) (plan_in w servers keep)) × (new ≡ going_on servers old (plan_in w servers keep))
PlansBy w servers keep old new (Err Memory) = new ≡ old
PlansBy w servers keep old new (Err NoSuchMessage) = ⊥
PlansBy w servers keep old new (Err NoSuchNode) = ⊥
PlansBy w servers keep old new (Err NodeDown) = ⊥
PlansBy w servers keep old new (Err NothingToDo) = ⊥
PlansBy w servers keep old new (Err (Limit which)) = ⊥

abbrev pub PlansIf : Bool → State → ℕ → ℕ → Option Going → Option Going → Result Planned Refusal → Type 0
PlansIf true w servers keep old new result = PlansBy w servers keep old new result
PlansIf false w servers keep old new result = (result ≡ Err NothingToDo) × (new ≡ old)

-- a plan for a number of servers that is fit, with a number of 32 bits of instances that are to stay
abbrev pub Plans : State → ℕ → ℕ → Option Going → Option Going → Result Planned Refusal → Type 0
Plans w servers keep old new result = PlansIf (is_fit w servers) w servers (capped keep) old new result

-- ---- loading

-- the instance is one of the servers for which the plan was made
abbrev pub is_among : Going → Instance → Bool
is_among g i = nat_lt i.0 g.servers

abbrev pub loaded_by : Option Going → Instance → Partition → Sequence → Result Bool Refusal
loaded_by None i p q = Err NothingToDo
loaded_by (Some g) i p q = only_if (is_among g i) NoSuchNode (Ok (is_online_at g.rehearsed p q i))

abbrev pub loaded_of : State → Option Going → Instance → Partition → Sequence → Result Bool Refusal
loaded_of w r i p q = only_if (has_partition w p) NoSuchNode (loaded_by r i p q)

abbrev pub loaded_in : Option Going → Instance → Partition → Sequence → Option Going
loaded_in None i p q = None
loaded_in (Some g) i p q = if is_among g i then Some (record g { rehearsed = loaded p q i g.rehearsed }) else Some g

abbrev pub after_loaded : State → Option Going → Instance → Partition → Sequence → Option Going
after_loaded w r i p q = if has_partition w p then loaded_in r i p q else r

-- ---- stepping

abbrev pub stepped_as : ℕ → Result Rehearsed RebalanceRefused → Stepped
stepped_as steps (Ok next) = went.At next.at steps
stepped_as steps (Err refused) = went.Refused (told_number refused)

abbrev pub stepped_on : Going → Result Rehearsed RebalanceRefused → Going
stepped_on g (Ok next) = record g { rehearsed = next }
stepped_on g (Err refused) = g

-- what a step comes to, unless memory ran out, and then all is as before
abbrev pub StepsGoing : Going → Going → Result Stepped Refusal → Type 0
StepsGoing old new (Ok stepped) =
    (stepped ≡ stepped_as old.steps (step old.rehearsed)) × (new ≡ stepped_on old (step old.rehearsed))
StepsGoing old new (Err Memory) = new ≡ old
StepsGoing old new (Err NoSuchMessage) = ⊥
StepsGoing old new (Err NoSuchNode) = ⊥
StepsGoing old new (Err NodeDown) = ⊥
StepsGoing old new (Err NothingToDo) = ⊥
StepsGoing old new (Err (Limit which)) = ⊥

abbrev pub StepsOn : Option Going → Option Going → Result Stepped Refusal → Type 0
StepsOn None new result = (result ≡ Err NothingToDo) × (new ≡ None)
StepsOn (Some old) None result = ⊥
StepsOn (Some old) (Some new) result = StepsGoing old new result
