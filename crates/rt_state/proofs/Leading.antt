-- How a world goes on where one of its controllers took a step, in the words of the step.
use Rattle.std.proofs.Common.{◌≡◌, ℕ, length, slice_get, slice_set, Option, Some, None, Ok, refl, sym, ap, subst, ◌∙◌}
use Rattle.rt_base.specs.declared.numbers.ControllerId.{ControllerId}
use Rattle.rt_base.specs.declared.numbers.Partition.{Partition}
use Rattle.rt_controller.specs.Controller.{Controlling}
use Rattle.rt_controller.specs.Steps.{Handles, Works}
use Rattle.rt_controller.specs.declared.handled.Handled.{Handled}
use Rattle.rt_deep.specs.Meaning.{Told as ToldDeep}
use Rattle.rt_deep.specs.Memory.{means as deep_means}
use Rattle.rt_events.specs.declared.outcome.Outcome.{Outcome}
use Rattle.rt_model.specs.declared.job_step.JobStep.{JobStep}
use Rattle.rt_model.specs.declared.request.Request.{Request}
use Rattle.rt_store.specs.Meaning.{Told}
use Rattle.rt_store.specs.Memory.{means}
use Rattle.rt_state.proofs.NeedsNodes.{stepped_told}
use Rattle.rt_state.specs.Finding.{request_at}
use Rattle.rt_state.specs.Jobs.{JobSteps, JobStepsAt, job_told, noted_set, stepped}
use Rattle.rt_state.specs.Messages.{Delivers, DeliversAt, after_step, handed, tells}
use Rattle.rt_state.specs.Nodes.{ControllerDoes, ControllerDoesAt, with_controller}
use Rattle.rt_nodes.specs.declared.chore.Chore.{Chore}
use Rattle.rt_state.specs.Repairs.{Keeps, KeepsAt, NodeKeeps, NodeKeepsAt, upkeep_in}
use Rattle.rt_state.specs.Room.{counted, spent, with_set}
use Rattle.rt_nodes.specs.declared.controller_node.ControllerNode.{ControllerNode}
use Rattle.rt_state.specs.declared.cost.Cost.{Cost}
use Rattle.rt_state.specs.declared.counts.Counts.{Counts}
use Rattle.rt_state.specs.declared.state.State.{State}
use Rattle.rt_nodes.specs.declared.upkeep.Upkeep.{Upkeep}

pub controller_does : (w : State) (c : ControllerId) (cost : Cost) (old : ControllerNode) (does : ControllerNode → ControllerNode) (outcome : Outcome)
    → slice_get w.controllers c.0 ≡ Some old
    → ControllerDoes w c does outcome cost (counted (with_controller w c (does old)) cost, outcome)
controller_does w c cost old does outcome found =
    subst (λ o. ControllerDoesAt o w c does outcome cost (counted (with_controller w c (does old)) cost, outcome)) (sym found) refl

-- ---- a request is handed over

pub request_handed : (w : State) (m : ℕ) (c : ControllerId) (q : Request) (node : ControllerNode) (controller : Controlling) (what : Handled) (store : Told) (deep : ToldDeep)
    → request_at w m ≡ Some q → slice_get w.controllers c.0 ≡ Some node
    → Handles {E = Unit {0}} (means w.store) (means store) (deep_means w.deep) (deep_means deep) node.controller q w.moment controller (Ok what)
    → (cost : Cost) → Delivers w m c cost (handed (after_step w c node controller store deep) cost what)
request_handed w m c q node controller what store deep asked found h cost =
    let mid = after_step w c node controller store deep in
    subst (λ o. DeliversAt o (slice_get w.controllers c.0) w c cost (handed mid cost what)) (sym asked)
    (subst (λ o. DeliversAt (Some q) o w c cost (handed mid cost what)) (sym found) (controller, what, store, deep, h, refl))

-- the answer is told, and the event counted
pub request_delivered : (w mid s : State) (m : ℕ) (c : ControllerId) (cost : Cost) (what : Handled) (outcome : Outcome) (counts : Counts)
    → ((k : Cost) → Delivers w m c k (handed mid k what)) → (s, outcome) ≡ tells mid what → counts ≡ spent s.counts cost
    → Delivers w m c cost (record s { counts = counts }, outcome)
request_delivered w mid s m c cost what outcome counts handed_over told spends =
    let same : handed mid cost what ≡ (counted s cost, outcome) = ap (λ (x : State × Outcome). (counted x.0 cost, x.1)) (sym told) in
    subst (λ k. Delivers w m c cost (record s { counts = k }, outcome)) (sym spends) (subst (λ x. Delivers w m c cost x) same (handed_over cost))

-- ---- a job steps

pub job_stepped : (w : State) (c : ControllerId) (j : ℕ) (node : ControllerNode) (controller : Controlling) (step : JobStep) (store : Told) (deep : ToldDeep)
    → slice_get w.controllers c.0 ≡ Some node
    → Works (means w.store) (means store) (deep_means w.deep) (deep_means deep) node.controller j w.moment controller (Ok step)
    → (cost : Cost) → JobSteps w c j cost (stepped (noted_set (after_step w c node controller store deep) cost (length w.store.writes)) cost step)
job_stepped w c j node controller step store deep found h cost =
    let next = stepped (noted_set (after_step w c node controller store deep) cost (length w.store.writes)) cost step in
    subst (λ o. JobStepsAt o w c j cost next) (sym found) (controller, step, store, deep, h, refl)

-- what is set is noted, the step is told, and the event counted
pub job_delivered : (w mid s : State) (c : ControllerId) (j : ℕ) (cost : Cost) (step : JobStep) (outcome : Outcome) (noted counts : Counts)
    → ((k : Cost) → JobSteps w c j k (stepped (noted_set mid k (length w.store.writes)) k step))
    → noted ≡ with_set mid.counts cost (length w.store.writes) (length mid.store.writes)
    → (s, outcome) ≡ job_told (record mid { counts = noted }) step → counts ≡ spent s.counts cost
    → JobSteps w c j cost (record s { counts = counts }, outcome)
job_delivered w mid s c j cost step outcome noted counts steps notes tells spends =
    let set = noted_set mid cost (length w.store.writes) in
    let done : (s, outcome) ≡ job_told set step = subst (λ k. (s, outcome) ≡ job_told (record mid { counts = k }) step) notes tells in
    let same : stepped set cost step ≡ (counted s cost, outcome) = stepped_told set cost step ∙ ap (λ (x : State × Outcome). (counted x.0 cost, x.1)) (sym done) in
    subst (λ k. JobSteps w c j cost (record s { counts = k }, outcome)) (sym spends) (subst (λ x. JobSteps w c j cost x) same (steps cost))

-- ---- a chore

-- the state after a controller's step that calls the store
abbrev pub after_node : State → ControllerId → ControllerNode → Told → Cost → State
after_node w c node store cost =
    counted (noted_set (record w { controllers = slice_set w.controllers c.0 node; store = store }) cost (length w.store.writes)) cost

keeps_by : (w : State) (c : ControllerId) (p : Partition) (chore : Chore) (cost : Cost) (node new : ControllerNode) (store : Told) (outcome : Outcome) (o : Option Upkeep)
    → NodeKeepsAt o chore w.setup p w.moment w.store store node new outcome
    → KeepsAt (Some node) o w c p chore cost (after_node w c new store cost, outcome)
keeps_by w c p chore cost node new store outcome None h = absurd h
keeps_by w c p chore cost node new store outcome (Some u) (v, k, e) = (v, store, k, ap (λ (n : ControllerNode). after_node w c n store cost) e)

pub node_kept : (w : State) (c : ControllerId) (p : Partition) (chore : Chore) (cost : Cost) (node new : ControllerNode) (store : Told) (outcome : Outcome) (noted counts : Counts)
    → slice_get w.controllers c.0 ≡ Some node → NodeKeeps chore w.setup p w.moment w.store store node new outcome
    → noted ≡ with_set w.counts cost (length w.store.writes) (length store.writes) → counts ≡ spent noted cost
    → Keeps w c p chore cost (record w { controllers = slice_set w.controllers c.0 new; store = store; counts = counts }, outcome)
node_kept w c p chore cost node new store outcome noted counts found h notes spends =
    let by : Counts → Type 0 = λ k. Keeps w c p chore cost (record w { controllers = slice_set w.controllers c.0 new; store = store; counts = k }, outcome) in
    subst by (sym (spends ∙ ap (λ (k : Counts). spent k cost) notes))
    (subst (λ o. KeepsAt o (upkeep_in o p) w c p chore cost (after_node w c new store cost, outcome)) (sym found)
    (keeps_by w c p chore cost node new store outcome (slice_get node.upkeep p.0) h))
