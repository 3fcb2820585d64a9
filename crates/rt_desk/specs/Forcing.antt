-- `pause`, `resume`, `forceCommit` and `forceStatus fN`: replicas that consume are told to end their segments where they stand,
-- and while a run is paused no replica begins to consume.
use Rattle.std.specs.Prelude.{ℕ, zero, suc, ◌+◌, Bool, true, false, List, [], ◌∷◌, ◌++◌, length, Option, None, Some, Result, Ok, Err, slice_get}
use Rattle.rt_desk.specs.Telling.{Changed, CountsAs, changed}
use Rattle.rt_events.specs.declared.event.Event.TheVariants.{Force}
use Rattle.rt_events.specs.declared.outcome.Outcome.{Outcome}
use Rattle.rt_events.specs.declared.refusal.Refusal.{Refusal}
use Rattle.rt_events.specs.declared.refusal.Refusal.TheVariants.{NoSuchMessage, NoSuchNode, NodeDown, NothingToDo, Limit, Memory}
use Rattle.rt_macros.specs.Doing.{Act, Each, Gives, Happens, PassesOver, Refuses, Then, Tries}
use Rattle.rt_model.specs.Metadata.{metadata_of}
use Rattle.rt_model.specs.declared.node.Listed.{Listed}
use Rattle.rt_pause.specs.Forced.{Segment, is_same, pending_of, segment_of, segments_of}
use Rattle.rt_pause.specs.declared.replica_seen.ReplicaSeen.{ReplicaSeen}
use Rattle.rt_report.specs.FurtherTexts.{forced_text, paused_text, pending_text, resumed_text}
use Rattle.rt_world.specs.Reading.{replicas_seen}
use Rattle.rt_state.specs.declared.state.State.{State}

-- ---- the forces

abbrev pub Noted : Type 0
Noted = List ReplicaSeen

-- where the event happened the replica is noted; where there is nothing to do it isn't
abbrev pub AfterForce : ReplicaSeen → Noted → Result Outcome Refusal → Act Noted
AfterForce replica noted (Ok outcome) w = Gives (noted ++ replica ∷ []) w
AfterForce replica noted (Err NothingToDo) w = Gives noted w
AfterForce replica noted (Err NoSuchMessage) w = Refuses NoSuchMessage w
AfterForce replica noted (Err NoSuchNode) w = Refuses NoSuchNode w
AfterForce replica noted (Err NodeDown) w = Refuses NodeDown w
AfterForce replica noted (Err (Limit which)) w = Refuses (Limit which) w
AfterForce replica noted (Err Memory) w = Refuses Memory w

abbrev pub ForcesOne : ReplicaSeen → Noted → Act Noted
ForcesOne replica noted w = Tries (Happens (Force replica.instance replica.partition replica.sequence)) (AfterForce replica noted) w

-- the event `force` for each replica for which it is due, as they stand at the beginning; those of them that were forced
abbrev pub ForcesAll : Act Noted
ForcesAll w = Each ForcesOne (replicas_seen w) [] w

-- ---- pause and resume

-- the run is paused from now on
abbrev pub PauseTold : Act (Changed Bool)
PauseTold w = Then ForcesAll (λ forced. Gives (changed true (paused_text (length forced)))) w

-- the run isn't paused any more
abbrev pub ResumeTold : Act (Changed Bool)
ResumeTold w = CountsAs false resumed_text w

-- ---- forceCommit and forceStatus

-- the segments of the force jobs, by number
abbrev pub Jobs : Type 0
Jobs = List (List Segment)

-- a replica is of the segment of another one
abbrev pub is_of : ReplicaSeen → ReplicaSeen → Bool
is_of replica other = is_same (segment_of replica) (segment_of other)

-- a job more, with these segments
abbrev pub with_job : Jobs → List Segment → Changed Jobs
with_job jobs segments = changed (jobs ++ segments ∷ []) (forced_text (length jobs) (length segments))

abbrev pub ForceCommitTold : Jobs → Act (Changed Jobs)
ForceCommitTold jobs w = Then ForcesAll (λ forced. Gives (with_job jobs (segments_of forced))) w

-- the present metadata nodes of so many partitions, from one on
abbrev pub nodes_from : State → ℕ → ℕ → List (List Listed)
nodes_from w at zero = []
nodes_from w at (suc count) = metadata_of w.store.writes (record { 0 = at }) ∷ nodes_from w (at + 1) count

abbrev pub nodes_in : State → List (List Listed)
nodes_in w = nodes_from w 0 w.setup.partitions

abbrev pub GivesPending : ℕ → List Segment → Unit {0} → Act (List ℕ)
GivesPending job segments done w = Gives (pending_text job (pending_of (nodes_in w) segments)) w

abbrev pub PendingTold : ℕ → List Segment → Act (List ℕ)
PendingTold job segments w = Then PassesOver (GivesPending job segments) w

abbrev pub StatusBy : ℕ → Option (List Segment) → Act (List ℕ)
StatusBy job None w = Refuses NoSuchMessage w
StatusBy job (Some segments) w = PendingTold job segments w

abbrev pub ForceStatusTold : Jobs → ℕ → Act (List ℕ)
ForceStatusTold jobs job w = StatusBy job (slice_get jobs job) w
