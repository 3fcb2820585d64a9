-- What a controller's part in an exchange leaves: the servers, the log, the plans of faults, and who leads.
use Rattle.std.proofs.Common.{◌≡◌, ℕ, [], length, Option, Some, None, Ok, refl, ◌∙◌, ap, slice_get}
use Rattle.rt_base.specs.declared.numbers.ControllerId.{ControllerId}
use Rattle.rt_commit.specs.Told.{store_after}
use Rattle.rt_controller.specs.Requests.{call_of, handle_call, has_machine, has_none, not_assigned, not_leading, past_last, turn_of, uploads, Turn as Rule}
use Rattle.rt_controller.specs.Working.{work_call}
use Rattle.rt_controller.specs.declared.handled.Handled.{Handled}
use Rattle.rt_controller.specs.declared.handled.Handled.TheVariants as handled
use Rattle.rt_controller.proofs.Telling.{told_request, told_work}
use Rattle.rt_deep.specs.Meaning.{Told as ToldDeep}
use Rattle.rt_events.specs.Fits.{Fits as IsFitting}
use Rattle.rt_events.specs.declared.event.Event.{Event}
use Rattle.rt_events.specs.declared.event.Event.TheVariants as event
use Rattle.rt_events.specs.declared.outcome.Outcome.{Outcome}
use Rattle.rt_model.specs.declared.job_step.JobStep.{JobStep}
use Rattle.rt_model.specs.declared.reply.Reply.{Reply}
use Rattle.rt_model.specs.declared.request.Request.{Request}
use Rattle.rt_nodes.specs.declared.controller_node.ControllerNode.{ControllerNode}
use Rattle.rt_safety.proofs.JobsOn.{handed_same}
use Rattle.rt_state.specs.Applying.{Next}
use Rattle.rt_state.specs.Finding.{request_at}
use Rattle.rt_state.specs.Jobs.{noted_set, stepped_by, JobStepsAt}
use Rattle.rt_state.specs.Messages.{after_step, handed, DeliversAt}
use Rattle.rt_state.specs.declared.state.State.{State}
use Rattle.rt_store.specs.Meaning.{Told}
use Rattle.rt_store.proofs.Told.{read_same}
use Rattle.rt_unrefused.proofs.JobSteps.{own_step}
use Rattle.rt_world.specs.Step.{Steps}
use Rattle.rt_calm.proofs.Keeping.{calm_still, fetches_after, keeps_then, servers_up, step_keeps, unplanned_after, KeepsOn}
use Rattle.rt_calm.proofs.Leading.{handled_leads, leads_put, worked_leads, KeepsLeads}

-- ---- a controller's part

-- it keeps on, and the servers stay as they are
pub record IsAsking (u z : State) : Type 0 where
  pub keeps : KeepsOn u z
  pub servers : z.servers ≡ u.servers

pub asking_on : (u z y : State) (e : Event) (o : Outcome) → IsAsking u z → IsFitting z.setup.schema e → Steps z e y (Ok o) → y.servers ≡ z.servers → y.log ≡ z.log
    → KeepsLeads z y → (z.store.faults.plan ≡ [] → y.store.faults.plan ≡ []) → (z.deep.faults.plan ≡ [] → y.deep.faults.plan ≡ []) → IsAsking u y
asking_on u z y e o k fits steps servers log leads plan fetches =
    record {
      keeps =
          keeps_then u z y k.keeps
          (step_keeps z y e o k.keeps.going fits steps log leads plan fetches (servers_up z y servers) (λ same. calm_still z y servers same));
      servers = servers ∙ k.servers;
    }

pub delivery_plan : (w v : State) (m : ℕ) (c : ControllerId) (o : Outcome) → Steps w (event.Deliver m c) v (Ok o) → w.store.faults.plan ≡ []
    → v.store.faults.plan ≡ []
delivery_plan w v m c o (cost, due, h) none = by_found (request_at w m) (slice_get w.controllers c.0) h
  where
    by_answer : (z : State) (what : Handled) → z.store.faults.plan ≡ [] → (v, o) ≡ handed z cost what → v.store.faults.plan ≡ []
    by_answer z (handled.Reply y) same is = ap (λ (n : Next). n.0.store.faults.plan) is ∙ same
    by_answer z (handled.Job j) same is = ap (λ (n : Next). n.0.store.faults.plan) is ∙ same

    by_found : (q : Option Request) (n : Option ControllerNode) → DeliversAt q n w c cost (v, o) → v.store.faults.plan ≡ []
    by_found None n h = absurd h
    by_found (Some q) None h = absurd h
    by_found (Some q) (Some n) (new, what, store, deep, handles, is) =
        let x = told_request w.store store w.deep deep n.controller q w.moment (record { controller = new; handled = what }) handles in
        by_answer (after_step w c n new store deep) what
        (ap (λ (t : Told). t.faults.plan) x.store ∙ unplanned_after w.store (handle_call n.controller q) none) is

pub delivery_fetches : (w v : State) (m : ℕ) (c : ControllerId) (o : Outcome) → Steps w (event.Deliver m c) v (Ok o) → w.deep.faults.plan ≡ []
    → v.deep.faults.plan ≡ []
delivery_fetches w v m c o (cost, due, h) none = by_found (request_at w m) (slice_get w.controllers c.0) h
  where
    by_answer : (z : State) (what : Handled) → z.deep.faults.plan ≡ [] → (v, o) ≡ handed z cost what → v.deep.faults.plan ≡ []
    by_answer z (handled.Reply y) same is = ap (λ (n : Next). n.0.deep.faults.plan) is ∙ same
    by_answer z (handled.Job j) same is = ap (λ (n : Next). n.0.deep.faults.plan) is ∙ same

    by_found : (q : Option Request) (n : Option ControllerNode) → DeliversAt q n w c cost (v, o) → v.deep.faults.plan ≡ []
    by_found None n h = absurd h
    by_found (Some q) None h = absurd h
    by_found (Some q) (Some n) (new, what, store, deep, handles, is) =
        let x = told_request w.store store w.deep deep n.controller q w.moment (record { controller = new; handled = what }) handles in
        by_answer (after_step w c n new store deep) what
        (ap (λ (d : ToldDeep). d.faults.plan) x.deep ∙ fetches_after w.deep (handle_call n.controller q) none) is

-- the call of a request writes nothing
call_writes : (t : Told) (r : Request) (rule : Rule) → (store_after t (call_of r rule)).writes ≡ t.writes
call_writes t r not_leading = refl
call_writes t r (uploads path bytes) = refl
call_writes t r not_assigned = refl
call_writes t r past_last = refl
call_writes t r (has_machine place what) = refl
call_writes t r (has_none what) = read_same t

pub delivery_writes : (w v : State) (m : ℕ) (c : ControllerId) (o : Outcome) → Steps w (event.Deliver m c) v (Ok o) → v.store.writes ≡ w.store.writes
delivery_writes w v m c o (cost, due, h) = by_found (request_at w m) (slice_get w.controllers c.0) h
  where
    by_answer : (z : State) (what : Handled) → z.store.writes ≡ w.store.writes → (v, o) ≡ handed z cost what → v.store.writes ≡ w.store.writes
    by_answer z (handled.Reply y) same is = ap (λ (n : Next). n.0.store.writes) is ∙ same
    by_answer z (handled.Job j) same is = ap (λ (n : Next). n.0.store.writes) is ∙ same

    by_found : (q : Option Request) (n : Option ControllerNode) → DeliversAt q n w c cost (v, o) → v.store.writes ≡ w.store.writes
    by_found None n h = absurd h
    by_found (Some q) None h = absurd h
    by_found (Some q) (Some n) (new, what, store, deep, handles, is) =
        let x = told_request w.store store w.deep deep n.controller q w.moment (record { controller = new; handled = what }) handles in
        by_answer (after_step w c n new store deep) what
        (ap (λ (t : Told). t.writes) x.store ∙ call_writes w.store q (turn_of n.controller q)) is

pub job_plan : (w v : State) (c : ControllerId) (j : ℕ) (o : Outcome) → Steps w (event.Job c j) v (Ok o) → w.store.faults.plan ≡ [] → v.store.faults.plan ≡ []
job_plan w v c j o steps none =
    let did = own_step w v c j o steps in
    let x = told_work w.store did.store w.deep did.deep did.node.controller j w.moment (record { controller = did.new; step = did.did }) did.works in
    ap (λ (t : Told). t.faults.plan) (did.written ∙ x.store) ∙ unplanned_after w.store (work_call did.node.controller j w.moment) none

pub job_fetches : (w v : State) (c : ControllerId) (j : ℕ) (o : Outcome) → Steps w (event.Job c j) v (Ok o) → w.deep.faults.plan ≡ [] → v.deep.faults.plan ≡ []
job_fetches w v c j o (cost, due, h) none = by_node (slice_get w.controllers c.0) h
  where
    by_reply : (z : State) (step : JobStep) (r : Option Reply) → z.deep.faults.plan ≡ [] → (v, o) ≡ stepped_by z cost step r → v.deep.faults.plan ≡ []
    by_reply z step None same is = ap (λ (n : Next). n.0.deep.faults.plan) is ∙ same
    by_reply z step (Some y) same is = ap (λ (n : Next). n.0.deep.faults.plan) is ∙ same

    by_node : (n : Option ControllerNode) → JobStepsAt n w c j cost (v, o) → v.deep.faults.plan ≡ []
    by_node None h = absurd h
    by_node (Some n) (new, step, store, deep, works, is) =
        let x = told_work w.store store w.deep deep n.controller j w.moment (record { controller = new; step = step }) works in
        by_reply (noted_set (after_step w c n new store deep) cost (length w.store.writes)) step step.reply
        (ap (λ (d : ToldDeep). d.faults.plan) x.deep ∙ fetches_after w.deep (work_call n.controller j w.moment) none) is

pub delivery_log : (w v : State) (m : ℕ) (c : ControllerId) (o : Outcome) → Steps w (event.Deliver m c) v (Ok o) → v.log ≡ w.log
delivery_log w v m c o (cost, due, h) = by_found (request_at w m) (slice_get w.controllers c.0) h
  where
    by_answer : (z : State) (what : Handled) → z.log ≡ w.log → (v, o) ≡ handed z cost what → v.log ≡ w.log
    by_answer z (handled.Reply y) same is = ap (λ (n : Next). n.0.log) is ∙ same
    by_answer z (handled.Job j) same is = ap (λ (n : Next). n.0.log) is ∙ same

    by_found : (q : Option Request) (n : Option ControllerNode) → DeliversAt q n w c cost (v, o) → v.log ≡ w.log
    by_found None n h = absurd h
    by_found (Some q) None h = absurd h
    by_found (Some q) (Some n) (new, what, store, deep, handles, is) = by_answer (after_step w c n new store deep) what refl is

pub delivery_moment : (w v : State) (m : ℕ) (c : ControllerId) (o : Outcome) → Steps w (event.Deliver m c) v (Ok o) → v.moment ≡ w.moment
delivery_moment w v m c o (cost, due, h) = by_found (request_at w m) (slice_get w.controllers c.0) h
  where
    by_answer : (z : State) (what : Handled) → z.moment ≡ w.moment → (v, o) ≡ handed z cost what → v.moment ≡ w.moment
    by_answer z (handled.Reply y) same is = ap (λ (n : Next). n.0.moment) is ∙ same
    by_answer z (handled.Job j) same is = ap (λ (n : Next). n.0.moment) is ∙ same

    by_found : (q : Option Request) (n : Option ControllerNode) → DeliversAt q n w c cost (v, o) → v.moment ≡ w.moment
    by_found None n h = absurd h
    by_found (Some q) None h = absurd h
    by_found (Some q) (Some n) (new, what, store, deep, handles, is) = by_answer (after_step w c n new store deep) what refl is

pub delivery_leads : (w v : State) (m : ℕ) (c : ControllerId) (o : Outcome) → Steps w (event.Deliver m c) v (Ok o) → KeepsLeads w v
delivery_leads w v m c o (cost, due, h) = by_found (request_at w m) (slice_get w.controllers c.0) refl h
  where
    by_found : (q : Option Request) (n : Option ControllerNode) → slice_get w.controllers c.0 ≡ n → DeliversAt q n w c cost (v, o) → KeepsLeads w v
    by_found None n at h = absurd h
    by_found (Some q) None at h = absurd h
    by_found (Some q) (Some n) at (new, what, store, deep, handles, is) =
        leads_put w v c n (record n { controller = new }) at
        (ap (λ (x : Next). x.0.controllers) is ∙ handed_same (after_step w c n new store deep) cost what) refl
        (handled_leads n.controller q w.moment w.store store w.deep deep new what handles)

pub job_keeps_leads : (w v : State) (c : ControllerId) (j : ℕ) (o : Outcome) → Steps w (event.Job c j) v (Ok o) → KeepsLeads w v
job_keeps_leads w v c j o steps =
    let did = own_step w v c j o steps in
    leads_put w v c did.node (record did.node { controller = did.new }) did.at did.controllers refl
    (worked_leads w.store did.store w.deep did.deep did.node.controller did.new j w.moment did.did did.works)

pub job_log : (w v : State) (c : ControllerId) (j : ℕ) (o : Outcome) → Steps w (event.Job c j) v (Ok o) → v.log ≡ w.log
job_log w v c j o (cost, due, h) = by_node (slice_get w.controllers c.0) h
  where
    by_reply : (z : State) (step : JobStep) (r : Option Reply) → z.log ≡ w.log → (v, o) ≡ stepped_by z cost step r → v.log ≡ w.log
    by_reply z step None same is = ap (λ (n : Next). n.0.log) is ∙ same
    by_reply z step (Some y) same is = ap (λ (n : Next). n.0.log) is ∙ same

    by_node : (n : Option ControllerNode) → JobStepsAt n w c j cost (v, o) → v.log ≡ w.log
    by_node None h = absurd h
    by_node (Some n) (new, step, store, deep, works, is) =
        by_reply (noted_set (after_step w c n new store deep) cost (length w.store.writes)) step step.reply refl is

pub job_moment : (w v : State) (c : ControllerId) (j : ℕ) (o : Outcome) → Steps w (event.Job c j) v (Ok o) → v.moment ≡ w.moment
job_moment w v c j o (cost, due, h) = by_node (slice_get w.controllers c.0) h
  where
    by_reply : (z : State) (step : JobStep) (r : Option Reply) → z.moment ≡ w.moment → (v, o) ≡ stepped_by z cost step r → v.moment ≡ w.moment
    by_reply z step None same is = ap (λ (n : Next). n.0.moment) is ∙ same
    by_reply z step (Some y) same is = ap (λ (n : Next). n.0.moment) is ∙ same

    by_node : (n : Option ControllerNode) → JobStepsAt n w c j cost (v, o) → v.moment ≡ w.moment
    by_node None h = absurd h
    by_node (Some n) (new, step, store, deep, works, is) =
        by_reply (noted_set (after_step w c n new store deep) cost (length w.store.writes)) step step.reply refl is
