-- What a world holds stays bounded by the events that it counts.
use Rattle.std.proofs.Common.{◌≡◌, ℕ, ◌+◌, ◌≤◌, Result, Err, ap, length, arith}
use Rattle.std.specs.Prelude.{slice_set}
use Rattle.rt_base.specs.declared.numbers.ControllerId.{ControllerId}
use Rattle.rt_state.specs.Nodes.{with_controller}
use Rattle.rt_state.specs.Places.{AreAt}
use Rattle.rt_nodes.specs.declared.controller_node.ControllerNode.{ControllerNode}
use Rattle.rt_world.proofs.Places.{at_set}
use Rattle.rt_broker.specs.IsAsked.{messages_in}
use Rattle.rt_events.specs.declared.outcome.Outcome.{Outcome}
use Rattle.rt_events.specs.declared.refusal.Refusal.{Refusal}
use Rattle.rt_model.specs.Starting.{starting_contents}
use Rattle.rt_store.specs.Contents.{starting_of}
use Rattle.rt_state.specs.IsSafeWorld.{open_in, HasStarted, IsFew}
use Rattle.rt_state.specs.declared.cost.Cost.{Cost}
use Rattle.rt_state.specs.declared.state.State.{State}
use Rattle.rt_state.proofs.Possible.{HasRoom}

-- a state has grown by one event of that cost, at most
pub record GrowsFew (old new : State) (cost : Cost) : Type 0 where
  pub setup : new.setup ≡ old.setup
  pub events : new.counts.events ≡ old.counts.events + 1
  pub written : length new.store.writes ≤ length old.store.writes + 1
  pub sent : length new.sent ≤ length old.sent + 1
  pub appended : messages_in new.log ≤ messages_in old.log + 1
  pub asked : length new.queries ≤ length old.queries + 1
  pub started : AreAt (HasStarted (old.counts.events + 1)) new.controllers
  pub unanswered : new.counts.unanswered ≡ open_in new.queries
  pub few_unanswered : new.counts.unanswered ≤ old.counts.unanswered + cost.queries
  pub uploads : new.counts.uploads ≡ old.counts.uploads + cost.uploads
  pub stored : new.counts.stored ≤ old.counts.stored + cost.stored
  pub moment : new.moment.0 ≤ old.moment.0 + cost.millis

-- no job is started
pub none_started : (w : State) → IsFew w → AreAt (HasStarted (w.counts.events + 1)) w.controllers
none_started w f c n e = omega (arith, f.started c n e)

-- one controller starts a job at most
pub one_started : (w : State) (c : ℕ) (n : ControllerNode) → IsFew w → n.controller.started ≤ w.counts.events + 1
    → AreAt (HasStarted (w.counts.events + 1)) (slice_set w.controllers c n)
one_started w c n f few = at_set (HasStarted (w.counts.events + 1)) w.controllers c n few (none_started w f)

-- a controller that starts none is put
pub few_put : (w : State) (c : ControllerId) (n : ControllerNode) → IsFew w → n.controller.started ≤ w.counts.events → IsFew (with_controller w c n)
few_put w c n f few =
    record {
      events = f.events;
      written = f.written;
      sent = f.sent;
      appended = f.appended;
      asked = f.asked;
      started = at_set (HasStarted w.counts.events) w.controllers c.0 n few f.started;
      unanswered = f.unanswered;
      few_unanswered = f.few_unanswered;
      uploads = f.uploads;
      stored = f.stored;
      moment = f.moment;
    }

pub few_after : (old new : State) (cost : Cost) → HasRoom old cost → GrowsFew old new cost → IsFew old → IsFew new
few_after old new cost room g f =
    record {
      events = omega (arith, room.events, g.events);
      written = omega (arith, g.written, f.written, g.events, ap (λ s. length (starting_contents (starting_of s))) g.setup);
      sent = omega (arith, g.sent, f.sent, g.events);
      appended = omega (arith, g.appended, f.appended, g.events);
      asked = omega (arith, g.asked, f.asked, g.events);
      started = λ c n e. omega (arith, g.started c n e, g.events);
      unanswered = g.unanswered;
      few_unanswered = omega (arith, g.few_unanswered, room.queries);
      uploads = omega (arith, g.uploads, room.sent);
      stored = omega (arith, g.stored, room.stored);
      moment = omega (arith, g.moment, room.moment);
    }

-- ---- what an event comes to

abbrev pub refused : Refusal → Result Outcome Refusal
refused e = Err e
