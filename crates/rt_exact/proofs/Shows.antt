-- An event as it is shown: it leads to one world and one outcome, since its way does.
use Rattle.std.proofs.Common.{◌≡◌, Ok}
use Rattle.rt_events.specs.declared.event.Event.{Event}
use Rattle.rt_events.specs.declared.event.Event.TheVariants as event
use Rattle.rt_events.specs.declared.outcome.Outcome.{Outcome}
use Rattle.rt_state.specs.Applying.{Applies, Next}
use Rattle.rt_state.specs.declared.cost.Cost.{Cost}
use Rattle.rt_state.specs.declared.state.State.{State}
use Rattle.rt_world.specs.Step.{due_at, way_of}
use Rattle.rt_world.specs.Way.{Goes, Way}
use Rattle.rt_world.specs.Way as way
use Rattle.rt_exact.proofs.Answers.{AnswerShows, answer_shows_one}
use Rattle.rt_exact.proofs.Controllers.{delivers_one, jobs_one, chores_one}
use Rattle.rt_exact.proofs.Ones.{applied_one, comes_one, controller_does_one, IsOne, IsOneAsk, IsOneCall, IsOneStep, server_asks_one, server_calls_one, server_does_one, server_fetches_one, server_gets_one}
use Rattle.rt_exact.proofs.Pieces.{PieceShows, piece_shows_one}
use Rattle.rt_exact.proofs.Replicas.{builds_one, consumes_one, extends_one, forces_one, reports_one, stops_one}
use Rattle.rt_exact.proofs.Routing.{routes_one}
use Rattle.rt_exact.proofs.Servers.{crashes_one, loads_one, moves_one, replies_one, restarts_one, sees_one}

-- ---- a way

-- where it leads, as that is shown
abbrev pub GoesShown : State → Way → Cost → Next → Type 0
GoesShown u (way.serves q p s i) = PieceShows u q p s i
GoesShown u (way.closes q) = AnswerShows u q
GoesShown u y = Goes u y

-- what a server's step owes, so that its way leads to one world
abbrev pub IsOneWay : Way → Type 0
IsOneWay (way.alone i does) = IsOneStep does
IsOneWay (way.looks i does) = IsOneCall does
IsOneWay (way.calls i does) = IsOneCall does
IsOneWay (way.gets i does) = IsOneCall does
IsOneWay (way.sends i asks) = IsOneAsk asks
IsOneWay y = Unit {0}

way_one : (u : State) (y : Way) → IsOneWay y → IsOne (GoesShown u y)
way_one u (way.alone i does) one = server_does_one u i does one
way_one u (way.looks i does) one = server_fetches_one u i does one
way_one u (way.calls i does) one = server_calls_one u i does one
way_one u (way.gets i does) one = server_gets_one u i does one
way_one u (way.sends i asks) one = server_asks_one u i asks one
way_one u (way.takes m) one = replies_one u m
way_one u (way.turns c does outcome) one = controller_does_one u c does outcome
way_one u (way.handles m c) one = delivers_one u m c
way_one u (way.works c j) one = jobs_one u c j
way_one u (way.keeps c p chore) one = chores_one u c p chore
way_one u (way.routes q p) one = routes_one u q p
way_one u (way.serves q p s i) one = piece_shows_one u q p s i
way_one u (way.closes q) one = answer_shows_one u q
way_one u (way.outside next) one = comes_one next

-- ---- an event

event_one : (u : State) (e : Event) → IsOneWay (way_of u e)
event_one u (event.Consume i p q max) = consumes_one p q max u.moment
event_one u (event.Force i p q) = forces_one p q
event_one u (event.Stop i p q) = stops_one p q
event_one u (event.Build i p q) = builds_one p q
event_one u (event.Report i p q) = reports_one p q
event_one u (event.Extend i p q millis) = extends_one p q millis
event_one u (event.CrashServer i) = crashes_one
event_one u (event.RestartServer i) = restarts_one
event_one u (event.See i) = sees_one
event_one u (event.Transit i p q) = moves_one p q u.moment
event_one u (event.Download i p q) = loads_one p q
event_one u e = tt

-- what is shown of an event that happens
abbrev pub Shows : State → Event → State → Outcome → Type 0
Shows u e y a = Applies u (due_at u e) (GoesShown u (way_of u e)) y (Ok a)

-- from one state, one outcome and one state
pub shows_one : (u : State) (e : Event) (x y : State) (a b : Outcome) → Shows u e x a → Shows u e y b → (a ≡ b) × (x ≡ y)
shows_one u e x y a b h k = applied_one u (due_at u e) (GoesShown u (way_of u e)) x y a b (way_one u (way_of u e) (event_one u e)) h k
