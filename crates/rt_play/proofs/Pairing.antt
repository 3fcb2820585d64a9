-- A step of a job names a message exactly where it has a reply.
use Rattle.std.proofs.Common.{◌≡◌, ℕ, Option, Some, None, Ok, refl, sym, ap, subst, slice_get}
use Rattle.std.specs.Prelude.{is_none, length}
use Rattle.rt_base.specs.declared.numbers.ControllerId.{ControllerId}
use Rattle.rt_events.specs.declared.event.Event.{Event}
use Rattle.rt_events.specs.declared.event.Event.TheVariants as event
use Rattle.rt_events.specs.declared.outcome.Outcome.{Outcome}
use Rattle.rt_model.specs.declared.job_step.JobStep.{JobStep}
use Rattle.rt_model.specs.declared.reply.Reply.{Reply}
use Rattle.rt_nodes.specs.declared.controller_node.ControllerNode.{ControllerNode}
use Rattle.rt_play.specs.Ledger.{IsPaired}
use Rattle.rt_state.specs.Jobs.{JobStepsAt, noted_set, stepped_by}
use Rattle.rt_state.specs.Messages.{after_step}
use Rattle.rt_state.specs.declared.cost.Cost.{Cost}
use Rattle.rt_state.specs.declared.state.State.{State}
use Rattle.rt_world.specs.Step.{Steps}

-- the reply is sent, and its message named
step_paired : (c : ControllerId) (j : ℕ) (w : State) (cost : Cost) (did : JobStep) (r : Option Reply) → did.reply ≡ r
    → IsPaired (event.Job c j) (stepped_by w cost did r).1
step_paired c j w cost did None e = sym (ap is_none e)
step_paired c j w cost did (Some reply) e = sym (ap is_none e)

job_paired : (w v : State) (c : ControllerId) (j : ℕ) (o : Outcome) → Steps w (event.Job c j) v (Ok o) → IsPaired (event.Job c j) o
job_paired w v c j o (cost, due, h) = by_node (slice_get w.controllers c.0) h
  where
    by_node : (n : Option ControllerNode) → JobStepsAt n w c j cost (v, o) → IsPaired (event.Job c j) o
    by_node None k = absurd k
    by_node (Some node) (new, did, store, deep, works, is) =
        let z = noted_set (after_step w c node new store deep) cost (length w.store.writes) in
        subst (IsPaired (event.Job c j)) (sym (ap (λ (x : State × Outcome). x.1) is)) (step_paired c j z cost did did.reply refl)

pub paired : (w v : State) (e : Event) (o : Outcome) → Steps w e v (Ok o) → IsPaired e o
paired w v (event.Job c j) o steps = job_paired w v c j o steps
paired w v e o steps = tt
