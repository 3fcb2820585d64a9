-- A message is taken: a request by a controller, a reply by the server that asked.
use Rattle.std.specs.Prelude.{◌≡◌, ◌++◌, ◌∷◌, [], ℕ, length, slice_get, slice_set, Option, Some, None, is_some, false, Ok}
use Rattle.rt_base.specs.declared.numbers.ControllerId.{ControllerId}
use Rattle.rt_controller.specs.Controller.{Controlling}
use Rattle.rt_controller.specs.Steps.{Handles}
use Rattle.rt_controller.specs.declared.handled.Handled.{Handled}
use Rattle.rt_deep.specs.Meaning.{Told as ToldDeep}
use Rattle.rt_deep.specs.Memory.{means as deep_means}
use Rattle.rt_events.specs.declared.outcome.Outcome.{Outcome}
use Rattle.rt_model.specs.declared.reply.Reply.{Reply}
use Rattle.rt_model.specs.declared.request.Request.{Request}
use Rattle.rt_store.specs.Meaning.{Told}
use Rattle.rt_store.specs.Memory.{means}
use Rattle.rt_state.specs.Applying.{Next}
use Rattle.rt_state.specs.Finding.{has_controller, is_server_up, is_controller_up, request_at, reply_at}
use Rattle.rt_state.specs.Nodes.{ServerDoes}
use Rattle.rt_state.specs.Room.{Due, no_cost, priced, counted}
use Rattle.rt_state.specs.Tests.{Tests, met}
use Rattle.rt_state.specs.Tests as test
use Rattle.rt_nodes.specs.declared.controller_node.ControllerNode.{ControllerNode}
use Rattle.rt_state.specs.declared.cost.Cost.{Cost}
use Rattle.rt_state.specs.declared.state.State.{State}
use Rattle.rt_events.specs.declared.outcome.Outcome.TheVariants as told
use Rattle.rt_model.specs.declared.sent.Sent.TheVariants as sent
use Rattle.rt_controller.specs.declared.handled.Handled.TheVariants as handled
pub use Rattle.rt_nodes.specs.Messages.{took_by, took, node_took}

-- ---- a reply is sent

abbrev pub with_reply : State → Reply → State
with_reply w r = record w { sent = w.sent ++ sent.Reply r ∷ [] }

abbrev pub answers : State → Reply → State × (ℕ × Reply)
answers w r = (with_reply w r, (length w.sent, r))

-- ---- deliver

abbrev pub deliver_tests : State → ℕ → ControllerId → Tests
deliver_tests w m c = test.there (has_controller w c) (test.known (is_some (request_at w m)) (test.up (is_controller_up w c) test.none))

abbrev pub deliver_due : State → ℕ → ControllerId → Due
deliver_due w m c = met (deliver_tests w m c) (priced w no_cost)

-- the reply is sent, or a job was started
abbrev pub tells : State → Handled → State × Outcome
tells w (handled.Reply r) = (with_reply w r, told.Replied (length w.sent) r)
tells w (handled.Job j) = (w, told.Started j)

abbrev pub handed : State → Cost → Handled → Next
handed w cost what = let x = tells w what in (counted x.0 cost, x.1)

-- the state after a controller's step that may call the stores
abbrev pub after_step : State → ControllerId → ControllerNode → Controlling → Told → ToldDeep → State
after_step w c n controller store deep =
    record w {
      controllers = slice_set w.controllers c.0 (record n { controller = controller });
      store = store;
      deep = deep;
    }

abbrev pub DeliversAt : Option Request → Option ControllerNode → State → ControllerId → Cost → Next → Type 0
DeliversAt None n w c cost x = ⊥
DeliversAt (Some q) None w c cost x = ⊥
DeliversAt (Some q) (Some n) w c cost x =
    (controller : Controlling) × (what : Handled) × (store : Told) × (deep : ToldDeep)
    × Handles {E = Unit {0}} (means w.store) (means store) (deep_means w.deep) (deep_means deep) n.controller q w.moment controller (Ok what)
    × (x ≡ handed (after_step w c n controller store deep) cost what)

abbrev pub Delivers : State → ℕ → ControllerId → Cost → Next → Type 0
Delivers w m c cost x = DeliversAt (request_at w m) (slice_get w.controllers c.0) w c cost x

-- ---- reply

abbrev pub reply_tests : State → Option Reply → Tests
reply_tests w None = test.known false test.none
reply_tests w (Some r) = test.up (is_server_up w r.number.instance) test.none

abbrev pub reply_by : State → Option Reply → Due
reply_by w o = met (reply_tests w o) (priced w no_cost)

abbrev pub reply_due : State → ℕ → Due
reply_due w m = reply_by w (reply_at w m)

abbrev pub RepliesAt : Option Reply → State → Cost → Next → Type 0
RepliesAt None w cost x = ⊥
RepliesAt (Some r) w cost x =
    ServerDoes w r.number.instance (λ old new outcome. (outcome, new) ≡ node_took old r) cost x

abbrev pub Replies : State → ℕ → Cost → Next → Type 0
Replies w m cost x = RepliesAt (reply_at w m) w cost x
