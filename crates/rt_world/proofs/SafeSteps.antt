-- Every event that happens leaves a safe world.
use Rattle.std.proofs.Common.{◌≡◌, ap, subst, sym, Result, Ok, Err}
use Rattle.rt_events.specs.Fits.{Fits}
use Rattle.rt_events.specs.declared.event.Event.{Event}
use Rattle.rt_events.specs.declared.event.Event.TheVariants as event
use Rattle.rt_events.specs.declared.outcome.Outcome.{Outcome}
use Rattle.rt_events.specs.declared.refusal.Refusal.{Refusal}
use Rattle.rt_events.specs.declared.refusal.Refusal.TheVariants.{Memory}
use Rattle.rt_state.specs.Applying.{Next}
use Rattle.rt_state.specs.Finding.{replica_at}
use Rattle.rt_state.specs.IsSafeWorld.{IsSafeWorld}
use Rattle.rt_state.specs.Room.{priced}
use Rattle.rt_state.specs.declared.cost.Cost.{Cost}
use Rattle.rt_state.specs.declared.state.State.{State}
use Rattle.rt_world.proofs.Costs.{due_priced}
use Rattle.rt_world.proofs.Does.{server_calls_keeps, server_does_keeps, server_fetches_keeps, server_gets_keeps}
use Rattle.rt_world.proofs.Few.{refused}
use Rattle.rt_world.proofs.KeepsClock.{controller_does_keeps, free_keeps, lead_keeps, passed_keeps, tick_keeps}
use Rattle.rt_world.proofs.KeepsJobs.{job_keeps}
use Rattle.rt_world.proofs.KeepsLives.{crash_controller_keeps, crash_server_keeps, restart_controller_keeps, restart_server_keeps}
use Rattle.rt_world.proofs.KeepsMessages.{deliver_keeps, reply_keeps}
use Rattle.rt_world.proofs.KeepsQueries.{answer_keeps, ask_keeps, piece_keeps, route_keeps}
use Rattle.rt_world.proofs.KeepsRepairs.{chore_keeps}
use Rattle.rt_world.proofs.KeepsRequests.{extend_keeps, report_keeps, server_sends_keeps}
use Rattle.rt_world.proofs.KeepsServers.{build_keeps, consume_keeps, download_keeps, force_keeps, see_keeps, stop_keeps, transit_keeps}
use Rattle.rt_world.proofs.KeepsStream.{produce_keeps}
use Rattle.rt_world.proofs.Owing.{Owes}
use Rattle.rt_world.proofs.Refusing.{state_stays}
use Rattle.rt_world.specs.Step.{cost_of, due_at, size_of, Steps, way_of}
use Rattle.rt_world.specs.Way.{Goes, Way}
use Rattle.rt_world.specs.Way as way

-- a way that owes nothing any more
way_keeps : (w : State) (y : Way) (cost : Cost) (x : Next) → IsSafeWorld w → Owes w cost y → Goes w y cost x → IsSafeWorld x.0
way_keeps w (way.alone i does) cost x s owes h = server_does_keeps w i does cost x s owes.0 owes.1 h
way_keeps w (way.looks i does) cost x s owes h = server_fetches_keeps w i does cost x s owes.0 owes.1 h
way_keeps w (way.calls i does) cost x s owes h = server_calls_keeps w i does cost x s owes.0 owes.1 h
way_keeps w (way.gets i does) cost x s owes h = server_gets_keeps w i does cost x s owes.0 owes.1 h
way_keeps w (way.sends i asks) cost x s owes h = server_sends_keeps w i asks cost x owes.0 s owes.1 owes.2 h
way_keeps w (way.takes m) cost x s owes h = reply_keeps w m cost x s owes.0 h
way_keeps w (way.turns c does told) cost x s owes h = controller_does_keeps w c does told cost x s owes.0 owes.1 h
way_keeps w (way.handles m c) cost x s owes h = deliver_keeps w m c cost x s owes.0 h
way_keeps w (way.works c j) cost x s owes h = job_keeps w c j cost x s owes.0 h
way_keeps w (way.keeps c p chore) cost x s owes h = chore_keeps w c p chore cost x s owes.0 owes.1 h
way_keeps w (way.routes q p) cost x s owes h = route_keeps w q p cost x s owes.0 h
way_keeps w (way.serves q p r i) cost x s owes h = piece_keeps w q p r i cost x s owes.0 h
way_keeps w (way.closes q) cost x s owes h = answer_keeps w q cost x s owes.0 h
way_keeps w (way.outside next) cost x s owes h = subst (λ (z : Next). IsSafeWorld z.0) (sym h) owes

-- what an event owes that is due, and for which there is room; one that isn't named owes its price alone
event_owes : (w : State) (e : Event) (cost : Cost) → Fits w.setup.schema e → IsSafeWorld w → due_at w e ≡ Ok cost → priced w (cost_of w e) ≡ Ok cost
    → Owes w cost (way_of w e)
event_owes w (event.Produce p message) cost fits s due room = produce_keeps w p message cost s due
event_owes w (event.Tick millis) cost fits s due room = tick_keeps w millis cost s room
event_owes w (event.Lead c on) cost fits s due room = (room, lead_keeps w c on)
event_owes w (event.Consume i p q max) cost fits s due room = (room, consume_keeps w i p q cost s max due)
event_owes w (event.Force i p q) cost fits s due room = (room, force_keeps w i p q cost s due)
event_owes w (event.Stop i p q) cost fits s due room = (room, stop_keeps w i p q cost s due)
event_owes w (event.Build i p q) cost fits s due room = (room, build_keeps w i p q cost s due)
event_owes w (event.Report i p q) cost fits s due room = (size_of (replica_at w i p q), room, report_keeps w i p q cost s due)
event_owes w (event.Extend i p q millis) cost fits s due room = (0, room, extend_keeps w i p q cost s millis due)
event_owes w (event.CrashServer i) cost fits s due room = (room, crash_server_keeps w i s)
event_owes w (event.CrashController c) cost fits s due room = (room, crash_controller_keeps w c)
event_owes w (event.RestartServer i) cost fits s due room = (room, restart_server_keeps w i cost s due)
event_owes w (event.RestartController c) cost fits s due room = (room, restart_controller_keeps w c)
event_owes w (event.See i) cost fits s due room = (room, see_keeps w i cost s due)
event_owes w (event.Transit i p q) cost fits s due room = (room, transit_keeps w i cost s p q due)
event_owes w (event.Download i p q) cost fits s due room = (room, download_keeps w i cost s p q due)
event_owes w (event.Repair c p) cost fits s due room = (due, room)
event_owes w (event.Retain c p) cost fits s due room = (due, room)
event_owes w (event.FaultStore kept) cost fits s due room = record { safe = s.safe; few = free_keeps w cost s room }
event_owes w (event.FaultDeep kept) cost fits s due room = record { safe = s.safe; few = free_keeps w cost s room }
event_owes w (event.Ask query) cost fits s due room = ask_keeps w query cost s fits room
event_owes w (event.ShowMeta p q) cost fits s due room = passed_keeps w cost s room
event_owes w event.ShowIdeal cost fits s due room = passed_keeps w cost s room
event_owes w e cost fits s due room = (room, tt)

pub steps_keep : (old : State) (e : Event) (new : State) (result : Result Outcome Refusal) → (result ≡ refused Memory → ⊥) → Fits old.setup.schema e → IsSafeWorld old
    → Steps old e new result → IsSafeWorld new
steps_keep w e new (Ok outcome) other fits s (cost, due, h) = way_keeps w (way_of w e) cost (new, outcome) s (event_owes w e cost fits s due (due_priced w e cost due)) h
steps_keep w e new (Err r) other fits s h = subst IsSafeWorld (sym (state_stays w e new r (λ m. other (ap refused m)) h)) s
