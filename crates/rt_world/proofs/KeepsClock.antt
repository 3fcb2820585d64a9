-- The clock, and what a controller does that calls no store, keep a world safe.
use Rattle.std.proofs.Common.{◌≡◌, ℕ, Bool, true, false, Ok, Option, Some, None, refl, sym, ◌∙◌, ap, subst, arith, slice_get}
use Rattle.std.proofs.lemmas.List.{length-set}
use Rattle.rt_base.specs.declared.numbers.ControllerId.{ControllerId}
use Rattle.rt_controller.specs.Controller.{Controlling, believing}
use Rattle.rt_controller.proofs.Lasts.{believes_over}
use Rattle.rt_events.specs.declared.outcome.Outcome.{Outcome}
use Rattle.rt_events.specs.declared.outcome.Outcome.TheVariants as told
use Rattle.rt_state.specs.Applying.{Next}
use Rattle.rt_state.specs.Clock.{tick_due, ticked, node_believing, pass_due}
use Rattle.rt_state.specs.IsSafe.{IsSafe, IsControllerAt, past_of}
use Rattle.rt_state.specs.IsSafeWorld.{IsFew, IsSafeWorld}
use Rattle.rt_state.specs.Nodes.{with_controller, ControllerDoesAt, ControllerDoes}
use Rattle.rt_state.specs.Room.{no_cost, time_cost, priced, counted}
use Rattle.rt_nodes.specs.declared.controller_node.ControllerNode.{ControllerNode}
use Rattle.rt_state.specs.declared.cost.Cost.{Cost}
use Rattle.rt_state.specs.declared.state.State.{State}
use Rattle.rt_world.proofs.Few.{GrowsFew, few_after, few_put, none_started}
use Rattle.rt_world.proofs.Owing.{StepKeeps}
use Rattle.rt_world.proofs.Places.{at_set}
use Rattle.rt_state.proofs.Possible.{HasRoom, priced_room}
use Rattle.rt_world.specs.Way as way

-- an event that costs nothing, and leaves all but the counts
pub counts_grow : (w : State) (cost : Cost) → IsFew w → no_cost ≡ cost → GrowsFew w (counted w cost) cost
counts_grow w cost f e =
    record {
      setup = refl;
      events = refl;
      written = omega arith;
      sent = omega arith;
      appended = omega arith;
      asked = omega arith;
      started = none_started w f;
      unanswered = omega (arith, f.unanswered, ap (λ (c : Cost). c.queries) e);
      few_unanswered = omega arith;
      uploads = refl;
      stored = omega arith;
      moment = omega arith;
    }

pub free_keeps : (w : State) (cost : Cost) → IsSafeWorld w → priced w no_cost ≡ Ok cost → IsFew (counted w cost)
free_keeps w cost s possible =
    let room = priced_room w no_cost cost possible in
    few_after w (counted w cost) cost (subst (HasRoom w) room.0 room.1) (counts_grow w cost s.few room.0) s.few

pub passed_keeps : (w : State) (cost : Cost) → IsSafeWorld w → pass_due w ≡ Ok cost → IsSafeWorld (counted w cost)
passed_keeps w cost s possible = record { safe = s.safe; few = free_keeps w cost s possible }

pub tick_keeps : (w : State) (millis : ℕ) (cost : Cost) → IsSafeWorld w → tick_due w millis ≡ Ok cost → IsSafeWorld (ticked w millis cost).0
tick_keeps w millis cost s possible =
    let room = priced_room w (time_cost millis) cost possible in
    let f = s.few in
    record {
      safe = s.safe;
      few =
          few_after w (ticked w millis cost).0 cost (subst (HasRoom w) room.0 room.1)
          (record {
            setup = refl;
            events = refl;
            written = omega arith;
            sent = omega arith;
            appended = omega arith;
            asked = omega arith;
            started = none_started w f;
            unanswered = omega (arith, f.unanswered, ap (λ (c : Cost). c.queries) room.0);
            few_unanswered = omega arith;
            uploads = refl;
            stored = omega arith;
            moment = omega (arith, ap (λ (c : Cost). c.millis) room.0);
          })
          f;
    }

-- ---- a controller's own step that calls no store

pub controller_put : (w : State) (c : ControllerId) (n : ControllerNode) (cost : Cost) → IsSafe w → IsControllerAt w.setup (past_of w) c.0 n
    → IsSafe (counted (with_controller w c n) cost)
controller_put w c n cost s k =
    record {
      setup = s.setup;
      past = s.past;
      all_servers = s.all_servers;
      servers = s.servers;
      drawn = s.drawn;
      all_controllers = length-set w.controllers c.0 n ∙ s.all_controllers;
      controllers = at_set (IsControllerAt w.setup (past_of w)) w.controllers c.0 n k s.controllers;
      queries = s.queries;
    }

-- such a step keeps what lasts of each controller
pub controller_does_keeps : (w : State) (c : ControllerId) (does : ControllerNode → ControllerNode) (o : Outcome) (cost : Cost) (x : Next) → IsSafeWorld w
    → priced w no_cost ≡ Ok cost → StepKeeps w (way.turns c does o) → ControllerDoes w c does o cost x → IsSafeWorld x.0
controller_does_keeps w c does o cost x s possible keeps h = by_node (slice_get w.controllers c.0) refl h
  where
    by_node : (n : Option ControllerNode) → slice_get w.controllers c.0 ≡ n → ControllerDoesAt n w c does o cost x → IsSafeWorld x.0
    by_node None e h = absurd h
    by_node (Some n) e h =
        let k = keeps n (s.safe.controllers c.0 n e) in
        subst (λ (y : Next). IsSafeWorld y.0) (sym h)
        (record { safe = controller_put w c (does n) cost s.safe k.0; few = few_put (counted w cost) c (does n) (free_keeps w cost s possible) (omega (arith, k.1, s.few.started c.0 n e)) })

pub lead_keeps : (w : State) (c : ControllerId) (on : Bool) → StepKeeps w (way.turns c (node_believing on) told.Noted)
lead_keeps w c on =
    λ n k. (
      record { over = believes_over w.setup (past_of w) n.controller on k.over; placed = believing_id n.controller on ∙ k.placed; partitions = k.partitions; upkeep = k.upkeep },
      believing_started n.controller on,
    )
  where
    believing_started : (a : Controlling) (b : Bool) → (believing a b).started ≡ a.started
    believing_started a true = refl
    believing_started a false = refl

    believing_id : (a : Controlling) (b : Bool) → (believing a b).id.0 ≡ a.id.0
    believing_id a true = refl
    believing_id a false = refl
