-- Each event, a line each: what it asks for, what it costs, and the way in which it goes.
use Rattle.std.specs.Prelude.{◌≡◌, true, false, length, None, Result, Ok, Err}
use Rattle.rt_events.specs.declared.event.Event.{Event}
use Rattle.rt_events.specs.declared.event.Event.TheVariants as event
use Rattle.rt_events.specs.declared.outcome.Outcome.{Outcome}
use Rattle.rt_events.specs.declared.outcome.Outcome.TheVariants as told
use Rattle.rt_events.specs.declared.refusal.Refusal.{Refusal}
use Rattle.rt_events.specs.declared.refusal.Refusal.TheVariants.{Memory}
use Rattle.rt_nodes.specs.declared.chore.Chore.TheVariants.{Repair, Retire}
use Rattle.rt_state.specs.Applying.{Applies}
use Rattle.rt_state.specs.Clock.{deep_faulted, lead_tests, node_believing, pass_due, Passes, store_faulted, ticked}
use Rattle.rt_state.specs.Finding.{partition_tests, query_at, replica_at, reply_at}
use Rattle.rt_state.specs.Jobs.{job_tests, sets_of_job}
use Rattle.rt_state.specs.Lives.{controller_crashed, controller_restarted, crash_controller_tests, crash_server_tests, NodeCrashes, NodeRestarts, restart_controller_tests, restart_server_tests}
use Rattle.rt_state.specs.Messages.{deliver_tests, reply_tests}
use Rattle.rt_state.specs.Queries.{answer_tests, asked, piece_tests, route_tests}
use Rattle.rt_state.specs.Repairs.{chore_tests, upkeep_at}
use Rattle.rt_state.specs.Replicas.{builds_now, forces_now, NodeBuilds, NodeConsumes, NodeForces, NodeStops, replica_tests, stops_now, takes_now}
use Rattle.rt_state.specs.Requests.{asks_due, extends_now, NodeAsks, NodeAsksFor}
use Rattle.rt_state.specs.Room.{Due, dropped, Found, message_cost, no_cost, priced, query_cost, set_cost, time_cost, upload_cost}
use Rattle.rt_state.specs.Servers.{download_tests, NodeLoads, NodeMoves, NodeSees, see_tests, transit_tests}
use Rattle.rt_state.specs.Shows.{ideal_shown, meta_shown}
use Rattle.rt_state.specs.Stream.{produced}
use Rattle.rt_state.specs.Tests.{Tests, met}
use Rattle.rt_state.specs.Tests as test
use Rattle.rt_state.specs.declared.cost.Cost.{Cost}
use Rattle.rt_state.specs.declared.state.State.{State}
use Rattle.rt_world.specs.Kept.{Kept}
use Rattle.rt_world.specs.Way.{Goes, Way}
use Rattle.rt_world.specs.Way as way
pub use Rattle.rt_state.specs.Repairs.{set_by, set_by_repair, set_by_retirement}
pub use Rattle.rt_state.specs.Requests.{size_of}

-- what an event asks for before it happens
abbrev pub tests_at : State → Event → Tests
tests_at w (event.Produce p message) = partition_tests w p
tests_at w (event.Tick millis) = test.none
tests_at w (event.Lead c on) = lead_tests w c
tests_at w (event.Consume i p q max) = replica_tests w i p q (takes_now max)
tests_at w (event.Force i p q) = replica_tests w i p q forces_now
tests_at w (event.Stop i p q) = replica_tests w i p q stops_now
tests_at w (event.Build i p q) = replica_tests w i p q builds_now
tests_at w (event.Report i p q) = replica_tests w i p q asks_due
tests_at w (event.Extend i p q millis) = replica_tests w i p q extends_now
tests_at w (event.Deliver m c) = deliver_tests w m c
tests_at w (event.Job c j) = job_tests w c j
tests_at w (event.Reply m) = reply_tests w (reply_at w m)
tests_at w (event.CrashServer i) = crash_server_tests w i
tests_at w (event.CrashController c) = crash_controller_tests w c
tests_at w (event.RestartServer i) = restart_server_tests w i
tests_at w (event.RestartController c) = restart_controller_tests w c
tests_at w (event.See i) = see_tests w i
tests_at w (event.Transit i p q) = transit_tests w i p q
tests_at w (event.Download i p q) = download_tests w i p q
tests_at w (event.Repair c p) = chore_tests w c p Repair
tests_at w (event.Retain c p) = chore_tests w c p Retire
tests_at w (event.FaultStore kept) = test.none
tests_at w (event.FaultDeep kept) = test.none
tests_at w (event.Ask query) = test.none
tests_at w (event.Route q p) = route_tests w q p
tests_at w (event.Piece q p s i) = piece_tests w q p s i
tests_at w (event.Answer q) = answer_tests (query_at w q)
tests_at w (event.ShowMeta p q) = partition_tests w p
tests_at w event.ShowIdeal = test.none

-- what an event costs, beside its place among the events
abbrev pub cost_of : State → Event → Cost
cost_of w (event.Produce p message) = message_cost (length message)
cost_of w (event.Tick millis) = time_cost millis
cost_of w (event.Report i p q) = upload_cost (size_of (replica_at w i p q))
cost_of w (event.Job c j) = set_cost (sets_of_job w c j)
cost_of w (event.Repair c p) = set_cost (set_by Repair (upkeep_at w c p) w.moment)
cost_of w (event.Retain c p) = set_cost (set_by Retire (upkeep_at w c p) w.moment)
cost_of w (event.Ask query) = query_cost
cost_of w _ = no_cost

-- what an event costs that can happen, or why it can't
abbrev pub due_at : State → Event → Due
due_at w e = met (tests_at w e) (priced w (cost_of w e))

-- the way in which an event goes
abbrev pub way_of : State → Event → Way
way_of w (event.Produce p message) = way.outside (produced w p message)
way_of w (event.Tick millis) = way.outside (ticked w millis)
way_of w (event.Lead c on) = way.turns c (node_believing on) told.Noted
way_of w (event.Consume i p q max) = way.looks i (NodeConsumes p q max w.moment)
way_of w (event.Force i p q) = way.alone i (NodeForces p q)
way_of w (event.Stop i p q) = way.alone i (NodeStops p q)
way_of w (event.Build i p q) = way.alone i (NodeBuilds p q)
way_of w (event.Report i p q) = way.sends i (NodeAsks p q)
way_of w (event.Extend i p q millis) = way.sends i (NodeAsksFor p q millis)
way_of w (event.Deliver m c) = way.handles m c
way_of w (event.Job c j) = way.works c j
way_of w (event.Reply m) = way.takes m
way_of w (event.CrashServer i) = way.alone i NodeCrashes
way_of w (event.CrashController c) = way.turns c controller_crashed told.Down
way_of w (event.RestartServer i) = way.calls i NodeRestarts
way_of w (event.RestartController c) = way.turns c controller_restarted (told.Up None)
way_of w (event.See i) = way.calls i NodeSees
way_of w (event.Transit i p q) = way.calls i (NodeMoves p q w.moment)
way_of w (event.Download i p q) = way.gets i (NodeLoads p q)
way_of w (event.Repair c p) = way.keeps c p Repair
way_of w (event.Retain c p) = way.keeps c p Retire
way_of w (event.FaultStore kept) = way.outside (store_faulted w kept)
way_of w (event.FaultDeep kept) = way.outside (deep_faulted w kept)
way_of w (event.Ask query) = way.outside (asked w query)
way_of w (event.Route q p) = way.routes q p
way_of w (event.Piece q p s i) = way.serves q p s i
way_of w (event.Answer q) = way.closes q
way_of w (event.ShowMeta p q) = way.outside (meta_shown w p q)
way_of w event.ShowIdeal = way.outside (ideal_shown w)

-- the refusal of an event, if it is refused
abbrev pub due_of : State → Event → Found
due_of w e = dropped (due_at w e)

-- an event as it happens, or is refused
abbrev pub Steps : State → Event → State → Result Outcome Refusal → Type 0
Steps old event new result = Applies old (due_at old event) (Goes old (way_of old event)) new result

-- ---- of a world: one at which memory ran out is spent, and answers nothing else any more

abbrev pub StepsKept : Kept → Event → Kept → Result Outcome Refusal → Type 0
StepsKept old event new (Ok outcome) =
    (old.spent ≡ false) × (new.spent ≡ false) × Steps old.state event new.state (Ok outcome)
StepsKept old event new (Err Memory) = new.spent ≡ true
StepsKept old event new (Err refusal) = (old.spent ≡ false) × (due_of old.state event ≡ Err refusal) × (new ≡ old)

abbrev pub PassesKept : Kept → Kept → Result (Unit {0}) Refusal → Type 0
PassesKept old new (Ok u) = (old.spent ≡ false) × (new.spent ≡ false) × Passes old.state new.state (Ok u)
PassesKept old new (Err Memory) = (old.spent ≡ true) × (new ≡ old)
PassesKept old new (Err refusal) = (old.spent ≡ false) × (dropped (pass_due old.state) ≡ Err refusal) × (new ≡ old)
