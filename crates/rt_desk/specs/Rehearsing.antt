-- `peer sK P/Q` and `rehearse ..`: what would come of a server fetching a file from the others, and of a rebalance. Both look at
-- the present world, and change nothing of it.
use Rattle.std.specs.Prelude.{ℕ, List, Option, None, Some, Result, Ok, Err}
use Rattle.rt_base.specs.declared.numbers.Instance.{Instance}
use Rattle.rt_base.specs.declared.numbers.Partition.{Partition}
use Rattle.rt_base.specs.declared.numbers.Sequence.{Sequence}
use Rattle.rt_desk.specs.Telling.{Changed, Counts, CountsAs}
use Rattle.rt_dryrun.specs.Peers.{peer_of}
use Rattle.rt_dryrun.specs.Rehearsing.{Going as Plan, Plans, StepsOn, after_loaded, loaded_of}
use Rattle.rt_dryrun.specs.declared.peer_file.PeerFile.{PeerFile}
use Rattle.rt_dryrun.specs.declared.planned.Planned.{Planned}
use Rattle.rt_dryrun.specs.declared.planned.Planned.TheVariants as planned
use Rattle.rt_dryrun.specs.declared.stepped.Stepped.{Stepped}
use Rattle.rt_dryrun.specs.declared.stepped.Stepped.TheVariants as stepped
use Rattle.rt_events.specs.declared.refusal.Refusal.{Refusal}
use Rattle.rt_events.specs.declared.refusal.Refusal.TheVariants.{NoSuchMessage, NoSuchNode, NodeDown, NothingToDo, Limit, Memory}
use Rattle.rt_macros.specs.Doing.{Act, Reached, Refuses}
use Rattle.rt_report.specs.FurtherTexts.{at_text, nopeer_text, noplan_text, peer_text, plan_text, rehearsed_text}
use Rattle.rt_state.specs.declared.state.State.{State}

-- ---- peer

abbrev pub found_text : Instance → Partition → Sequence → Option PeerFile → List ℕ
found_text instance partition sequence None = nopeer_text instance partition sequence
found_text instance partition sequence (Some file) = peer_text instance partition sequence file.from file.rows

abbrev pub PeerBy : Instance → Partition → Sequence → Result (Option PeerFile) Refusal → Act (List ℕ)
PeerBy instance partition sequence (Ok file) w = Counts (found_text instance partition sequence file) w
PeerBy instance partition sequence (Err refusal) w = Refuses refusal w

abbrev pub PeerTold : Instance → Partition → Sequence → Act (List ℕ)
PeerTold instance partition sequence w = PeerBy instance partition sequence (peer_of w instance partition sequence) w

-- ---- rehearse

-- something was found, or a refusal that isn't want of memory: that is free, and told nowhere
abbrev pub IsNamed : {A : Type 0} → Result A Refusal → Type 0
IsNamed (Ok x) = Unit {0}
IsNamed (Err NoSuchMessage) = Unit {0}
IsNamed (Err NoSuchNode) = Unit {0}
IsNamed (Err NodeDown) = Unit {0}
IsNamed (Err NothingToDo) = Unit {0}
IsNamed (Err (Limit which)) = Unit {0}
IsNamed (Err Memory) = ⊥

-- what is refused stops the line; what is found is told with the plan behind it, and counts as an event
abbrev pub PlanTold : {A : Type 0} → (A → List ℕ) → Option Plan → Result A Refusal → Act (Changed (Option Plan))
PlanTold text plan (Ok x) w = CountsAs plan (text x) w
PlanTold text plan (Err refusal) w = Refuses refusal w

abbrev pub planned_text : Planned → List ℕ
planned_text (planned.Plan steps moves) = plan_text steps moves
planned_text (planned.Refused number) = noplan_text number

pub record RehearseTold (servers keep : ℕ) (old : Option Plan) (w : State) (v : Reached) (result : Result (Changed (Option Plan)) Refusal) : Type 0 where
  pub plan : Option Plan
  pub found : Result Planned Refusal
  pub named : IsNamed found
  pub made : Plans w servers keep old plan found
  pub tells : PlanTold planned_text plan found w v result

abbrev pub LoadedTold : Instance → Partition → Sequence → Option Plan → Act (Changed (Option Plan))
LoadedTold instance partition sequence old w =
    PlanTold rehearsed_text (after_loaded w old instance partition sequence) (loaded_of w old instance partition sequence) w

abbrev pub stepped_text : Stepped → List ℕ
stepped_text (stepped.At state steps) = at_text state steps
stepped_text (stepped.Refused number) = noplan_text number

pub record StepTold (old : Option Plan) (w : State) (v : Reached) (result : Result (Changed (Option Plan)) Refusal) : Type 0 where
  pub plan : Option Plan
  pub found : Result Stepped Refusal
  pub named : IsNamed found
  pub made : StepsOn old plan found
  pub tells : PlanTold stepped_text plan found w v result
