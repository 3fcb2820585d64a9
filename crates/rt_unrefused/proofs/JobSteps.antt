-- A step of a controller's job: what it leaves, and the reply that it sends.
use Rattle.std.proofs.Common.{◌≡◌, ℕ, List, [], ◌∷◌, ◌++◌, Option, Some, None, Ok, refl, sym, ◌∙◌, ap, subst, slice_get, slice_set, length}
use Rattle.std.proofs.lemmas.Option.{same_Some}
use Rattle.rt_base.specs.declared.numbers.ControllerId.{ControllerId}
use Rattle.rt_commit.specs.declared.job.Job.{Job}
use Rattle.rt_controller.proofs.CallsOver.{works_over}
use Rattle.rt_controller.specs.Controller.{Controlling}
use Rattle.rt_controller.specs.Right.{WorksOver, job_of}
use Rattle.rt_controller.specs.Steps.{Works}
use Rattle.rt_deep.specs.Meaning.{Told as ToldDeep}
use Rattle.rt_deep.specs.Memory.{means as deep_means}
use Rattle.rt_events.specs.declared.event.Event.TheVariants as event
use Rattle.rt_events.specs.declared.outcome.Outcome.{Outcome}
use Rattle.rt_events.specs.declared.outcome.Outcome.TheVariants as came
use Rattle.rt_model.specs.declared.job_step.JobStep.{JobStep}
use Rattle.rt_model.specs.declared.reply.Reply.{Reply}
use Rattle.rt_model.specs.declared.sent.Sent.{Sent}
use Rattle.rt_model.specs.declared.sent.Sent.TheVariants as sent
use Rattle.rt_nodes.specs.declared.controller_node.ControllerNode.{ControllerNode}
use Rattle.rt_safety.proofs.JobsOn.{own_slot}
use Rattle.rt_safety.specs.CommitRun.{job_in, open_job}
use Rattle.rt_state.specs.IsSafe.{past_of}
use Rattle.rt_state.specs.IsSafeWorld.{IsSafeWorld}
use Rattle.rt_state.specs.Jobs.{JobStepsAt, noted_set, stepped_by}
use Rattle.rt_state.specs.Messages.{after_step}
use Rattle.rt_state.specs.declared.cost.Cost.{Cost}
use Rattle.rt_state.specs.declared.state.State.{State}
use Rattle.rt_store.specs.Meaning.{Told}
use Rattle.rt_store.specs.Memory.{means}
use Rattle.rt_world.specs.Step.{Steps}

-- ---- a step of a controller's job

-- the reply of a step, where it has one, is sent behind all others
abbrev pub SendsIts : List Sent → State → Option ℕ → Option Reply → Type 0
SendsIts before v message None = Unit {0}
SendsIts before v message (Some reply) = (message ≡ Some (length before)) × (v.sent ≡ before ++ sent.Reply reply ∷ [])

-- what an event `job` does: a step of the controller's job of that number
pub record OwnStep (w v : State) (c : ControllerId) (j : ℕ) (o : Outcome) : Type 0 where
  pub node : ControllerNode
  pub at : slice_get w.controllers c.0 ≡ Some node
  pub new : Controlling
  pub did : JobStep
  pub store : Told
  pub deep : ToldDeep
  pub works : Works (means w.store) (means store) (deep_means w.deep) (deep_means deep) node.controller j w.moment new (Ok did)
  pub told : (message : Option ℕ) × (o ≡ came.Stepped did message)
  pub sends : SendsIts w.sent v told.0 did.reply
  pub controllers : v.controllers ≡ slice_set w.controllers c.0 (record node { controller = new })
  pub servers : v.servers ≡ w.servers
  pub written : v.store ≡ store

-- what is told of a step, and what it leaves
record Leaves (z : State) (did : JobStep) (r : Option Reply) (x : State × Outcome) : Type 0 where
  told : (message : Option ℕ) × (x.1 ≡ came.Stepped did message)
  sends : SendsIts z.sent x.0 told.0 r
  controllers : x.0.controllers ≡ z.controllers
  servers : x.0.servers ≡ z.servers
  written : x.0.store ≡ z.store

stepped_leaves : (z : State) (cost : Cost) (did : JobStep) (r : Option Reply) → Leaves z did r (stepped_by z cost did r)
stepped_leaves z cost did None = record { told = (None, refl); sends = tt; controllers = refl; servers = refl; written = refl }
stepped_leaves z cost did (Some reply) = record { told = (Some (length z.sent), refl); sends = (refl, refl); controllers = refl; servers = refl; written = refl }

pub own_step : (w v : State) (c : ControllerId) (j : ℕ) (o : Outcome) → Steps w (event.Job c j) v (Ok o) → OwnStep w v c j o
own_step w v c j o (cost, due, h) = by_node (slice_get w.controllers c.0) refl h
  where
    by_node : (n : Option ControllerNode) → slice_get w.controllers c.0 ≡ n → JobStepsAt n w c j cost (v, o) → OwnStep w v c j o
    by_node None at h = absurd h
    by_node (Some node) at (new, did, store, deep, works, is) =
        let z = noted_set (after_step w c node new store deep) cost (length w.store.writes) in
        let leaves = stepped_leaves z cost did did.reply in
        record {
          node = node;
          at = at;
          new = new;
          did = did;
          store = store;
          deep = deep;
          works = works;
          told = (leaves.told.0, ap (λ (x : State × Outcome). x.1) is ∙ leaves.told.1);
          sends = subst (λ (x : State). SendsIts w.sent x leaves.told.0 did.reply) (sym (ap (λ (x : State × Outcome). x.0) is)) leaves.sends;
          controllers = ap (λ (x : State × Outcome). x.0.controllers) is ∙ leaves.controllers;
          servers = ap (λ (x : State × Outcome). x.0.servers) is ∙ leaves.servers;
          written = ap (λ (x : State × Outcome). x.0.store) is ∙ leaves.written;
        }

module _ (w v : State) (c : ControllerId) (j : ℕ) (o : Outcome) (safe : IsSafeWorld w) (k : OwnStep w v c j o) where
  pub over : WorksOver w.setup (past_of w) w.store k.store w.deep k.deep k.node.controller k.new j k.did
  over =
      works_over w.setup (past_of w) w.store k.store w.deep k.deep k.node.controller k.new j w.moment k.did safe.safe.setup safe.safe.past refl refl
      (safe.safe.controllers c.0 k.node k.at).over k.works

  -- it is the one that is open there
  pub is_open_job : (job : Job) → open_job w c j ≡ Some job → over.job ≡ job
  is_open_job job there = same_Some over.job job (sym over.open_job ∙ ap (λ (n : Option ControllerNode). job_in n j) (sym k.at) ∙ there)

  pub there_then : open_job v c j ≡ job_of k.new j
  there_then =
      ap (λ (cs : List ControllerNode). job_in (slice_get cs c.0) j) k.controllers
      ∙ ap (λ (n : Option ControllerNode). job_in n j) (own_slot w.controllers c.0 k.node (record k.node { controller = k.new }) k.at)
