-- A CommitEnd that is taken in time opens its commit job.
use Rattle.std.proofs.Common.{◌≡◌, ℕ, List, Ok, Option, Some, refl, sym, ◌∙◌, ap, subst, slice_get, arith}
use Rattle.rt_base.specs.declared.numbers.ControllerId.{ControllerId}
use Rattle.rt_base.specs.declared.numbers.Offset.{Offset}
use Rattle.rt_events.specs.declared.event.Event.TheVariants as event
use Rattle.rt_events.specs.declared.outcome.Outcome.{Outcome}
use Rattle.rt_model.specs.declared.request.Request.{Request}
use Rattle.rt_model.specs.Messages.{asked_of}
use Rattle.rt_deep.specs.Memory.{means as deep_means}
use Rattle.rt_store.specs.Memory.{means}
use Rattle.rt_controller.specs.declared.segment_machine.SegmentMachine.{SegmentMachine}
use Rattle.rt_controller.specs.Answers.{Handling}
use Rattle.rt_controller.specs.Right.{IsTimely, commit_job, job_of}
use Rattle.rt_controller.proofs.Timely.{timely_job, timely_starts}
use Rattle.rt_state.specs.Applying.{Next}
use Rattle.rt_safety.specs.CommitRun.{Opens, job_in}
use Rattle.rt_state.specs.Finding.{request_at}
use Rattle.rt_state.specs.IsSafe.{past_of}
use Rattle.rt_state.specs.IsSafeWorld.{IsSafeWorld}
use Rattle.rt_state.specs.Messages.{DeliversAt, after_step, handed}
use Rattle.rt_world.specs.Step.{Steps}
use Rattle.rt_nodes.specs.declared.controller_node.ControllerNode.{ControllerNode}
use Rattle.rt_state.specs.declared.cost.Cost.{Cost}
use Rattle.rt_state.specs.declared.state.State.{State}
use Rattle.rt_safety.proofs.JobsOn.{handed_same, own_slot}
use Rattle.rt_world.proofs.KeepsMessages.{request_sent}

abbrev some_end : Offset → Option Offset
some_end end = Some end

module _ (w : State) (m : ℕ) (c : ControllerId) (q : Request) (node : ControllerNode) (path : List ℕ) (place : ℕ) (g : SegmentMachine) (s : IsSafeWorld w)
    (asks : request_at w m ≡ Some q) (at : slice_get w.controllers c.0 ≡ Some node) (timely : IsTimely node.controller q w.moment path place g) where
  opens_at : (cost : Cost) (x : Next) → DeliversAt (Some q) (Some node) w c cost x → Opens x.0 c node.controller.started (asked_of q) q.offset x.1
  opens_at cost x (new, what, store, deep, handles, is) =
      let n = node.controller.started in
      let over = (s.safe.controllers c.0 node at).over in
      let has = request_sent w m q asks in
      let starts = timely_starts w.setup (past_of w) s.safe.past node.controller q w.moment path place g has over timely (means w.store) (means store)
      (deep_means w.deep) (deep_means deep) new what handles in
      record {
        told_so =
            ap (λ (z : Next). z.1) is
            ∙ ap (λ (h : Handling). (handed (after_step w c node new store deep) cost h.handled).1) starts;
        opened =
            record {
              job = commit_job node.controller q path g;
              there =
                  ap (λ (z : Next). job_in (slice_get z.0.controllers c.0) n) is
                  ∙ ap (λ (l : List ControllerNode). job_in (slice_get l c.0) n) (handed_same _ cost what)
                  ∙ ap (λ (p : Option ControllerNode). job_in p n) (own_slot w.controllers c.0 node (record node { controller = new }) at)
                  ∙ ap (λ (h : Handling). job_of h.controller n) starts
                  ∙ timely_job w.setup (past_of w) s.safe.past node.controller q w.moment path place g has over timely;
              asked = refl;
              ends_at = ap some_end (sym timely.offset);
              few = omega arith;
            };
      }

pub commit_opens : (w : State) (m : ℕ) (c : ControllerId) (q : Request) (node : ControllerNode) (path : List ℕ) (place : ℕ) (g : SegmentMachine) (y : State)
    (outcome : Outcome) → IsSafeWorld w → request_at w m ≡ Some q → slice_get w.controllers c.0 ≡ Some node → IsTimely node.controller q w.moment path place g
    → Steps w (event.Deliver m c) y (Ok outcome) → Opens y c node.controller.started (asked_of q) q.offset outcome
commit_opens w m c q node path place g y outcome s asks at timely h =
    opens_at w m c q node path place g s asks at timely h.0 (y, outcome)
    (subst (λ (o : Option Request). DeliversAt o (Some node) w c h.0 (y, outcome)) asks
    (subst (λ (p : Option ControllerNode). DeliversAt (request_at w m) p w c h.0 (y, outcome)) at h.2))
