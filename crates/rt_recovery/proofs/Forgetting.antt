-- A controller that is down has no machine, turn by turn.
use Rattle.std.proofs.Common.{◌≡◌, ℕ, zero, suc, true, false, Option, Some, None, Ok, refl, sym, ◌∙◌, ap, subst, length, slice_get}
use Rattle.std.specs.Prelude.{slice_set, List, [], ◌∷◌, is_some}
use Rattle.std.proofs.lemmas.Bool.{true≢false}
use Rattle.rt_base.specs.declared.numbers.ControllerId.{ControllerId}
use Rattle.rt_base.specs.declared.numbers.Partition.{Partition}
use Rattle.rt_controller.specs.declared.handled.Handled.{Handled}
use Rattle.rt_controller.specs.declared.handled.Handled.TheVariants as handled
use Rattle.rt_events.specs.declared.event.Event.{Event}
use Rattle.rt_events.specs.declared.event.Event.TheVariants as event
use Rattle.rt_events.specs.declared.outcome.Outcome.{Outcome}
use Rattle.rt_events.specs.declared.refusal.Refusal.TheVariants.{NodeDown, NoSuchMessage, NoSuchNode}
use Rattle.rt_model.specs.declared.job_step.JobStep.{JobStep}
use Rattle.rt_model.specs.declared.reply.Reply.{Reply}
use Rattle.rt_model.specs.declared.request.Request.{Request}
use Rattle.rt_model.specs.declared.setup.Setup.{Setup}
use Rattle.rt_nodes.specs.declared.chore.Chore.{Chore}
use Rattle.rt_nodes.specs.declared.controller_node.ControllerNode.{ControllerNode}
use Rattle.rt_nodes.specs.declared.upkeep.Upkeep.{Upkeep}
use Rattle.rt_safety.specs.Runs.{happens, passes, Leads, Runs, Turn, TurnsTo}
use Rattle.rt_safety.proofs.Spares.{spares, Spares}
use Rattle.rt_safety.proofs.Ways.{is_free, leaving, IsFree, Leaving}
use Rattle.rt_state.specs.Applying.{Next}
use Rattle.rt_state.specs.Clock.{lead_due}
use Rattle.rt_state.specs.Finding.{find_controller, has_controller, is_controller_up, is_up_controller, request_at}
use Rattle.rt_state.specs.Jobs.{has_job, job_due, noted_set, sets_of_job, stepped_by, JobSteps, JobStepsAt}
use Rattle.rt_state.specs.Messages.{after_step, deliver_due, handed, Delivers, DeliversAt}
use Rattle.rt_state.specs.Nodes.{ControllerDoes, ControllerDoesAt}
use Rattle.rt_state.specs.Places.{AreAt}
use Rattle.rt_state.specs.Repairs.{upkeep_at, Keeps, KeepsAt}
use Rattle.rt_state.specs.Room.{no_cost, only_if, priced, set_cost, Due}
use Rattle.rt_state.specs.Start.{fresh_controller, fresh_controllers, start}
use Rattle.rt_state.specs.declared.cost.Cost.{Cost}
use Rattle.rt_state.specs.declared.state.State.{State}
use Rattle.rt_state.proofs.Possible.{only_passed, then_passed}
use Rattle.rt_world.proofs.Places.{at_none, at_push, at_set}
use Rattle.rt_world.specs.Step.{due_at, way_of}
use Rattle.rt_world.specs.Way.{Goes, Way}
use Rattle.rt_world.specs.Way as way

-- one that is down has no machine
abbrev pub HasForgotten : ℕ → ControllerNode → Type 0
HasForgotten c n = n.up ≡ false → n.controller.machines ≡ []

abbrev pub AllForgot : List ControllerNode → Type 0
AllForgot cs = AreAt HasForgotten cs

-- ---- who is up

-- a controller that was found is up
found_up : (w : State) (c : ControllerId) → find_controller w c ≡ Ok tt → is_controller_up w c ≡ true
found_up w c found =
    let there = only_passed (has_controller w c) NoSuchNode (only_if (is_controller_up w c) NodeDown (Ok tt)) tt found in
    (only_passed (is_controller_up w c) NodeDown (Ok tt) tt there.1).0

pub lead_up : (w : State) (c : ControllerId) (cost : Cost) → lead_due w c ≡ Ok cost → is_controller_up w c ≡ true
lead_up w c cost due = found_up w c (then_passed (find_controller w c) (priced w no_cost) cost due).0

deliver_up : (w : State) (m : ℕ) (c : ControllerId) (cost : Cost) → deliver_due w m c ≡ Ok cost → is_controller_up w c ≡ true
deliver_up w m c cost due =
    let rest : Due = only_if (is_controller_up w c) NodeDown (priced w no_cost) in
    let there = only_passed (has_controller w c) NoSuchNode (only_if (is_some (request_at w m)) NoSuchMessage rest) cost due in
    let asked = only_passed (is_some (request_at w m)) NoSuchMessage rest cost there.1 in
    (only_passed (is_controller_up w c) NodeDown (priced w no_cost) cost asked.1).0

job_up : (w : State) (c : ControllerId) (j : ℕ) (cost : Cost) → job_due w c j ≡ Ok cost → is_controller_up w c ≡ true
job_up w c j cost due =
    let own : Due = priced w (set_cost (sets_of_job w c j)) in
    let rest : Due = only_if (is_controller_up w c) NodeDown own in
    let there = only_passed (has_controller w c) NoSuchNode (only_if (has_job w c j) NoSuchMessage rest) cost due in
    let started = only_passed (has_job w c j) NoSuchMessage rest cost there.1 in
    (only_passed (is_controller_up w c) NodeDown own cost started.1).0

pub node_up : (w : State) (c : ControllerId) (n : ControllerNode) → slice_get w.controllers c.0 ≡ Some n → is_controller_up w c ≡ true → n.up ≡ true
node_up w c n there up = ap is_up_controller (sym there) ∙ up

stays_up : (n m : ControllerNode) (c : ℕ) → n.up ≡ true → m.up ≡ n.up → HasForgotten c m
stays_up n m c up same down = absurd (true≢false (sym up ∙ sym same ∙ down))

-- ---- an event

-- who takes the step is up and stays so, or has no machine behind it
abbrev Forgets : State → Way → Type 0
Forgets w (way.turns c does told) = (n : ControllerNode) → slice_get w.controllers c.0 ≡ Some n → HasForgotten c.0 (does n)
Forgets w (way.handles m c) = is_controller_up w c ≡ true
Forgets w (way.works c j) = is_controller_up w c ≡ true
Forgets w other = Unit {0}

module _ (w : State) (x : Next) (all : AllForgot w.controllers) where
  abbrev Forgot : Type 0
  Forgot = AllForgot x.0.controllers

  one_forgot : (c : ControllerId) (new : ControllerNode) → x.0.controllers ≡ slice_set w.controllers c.0 new → HasForgotten c.0 new → Forgot
  one_forgot c new put own = subst AllForgot (sym put) (at_set HasForgotten w.controllers c.0 new own all)

  turns_forgot : (c : ControllerId) (does : ControllerNode → ControllerNode) (o : Outcome) (cost : Cost) → Forgets w (way.turns c does o)
      → ControllerDoes w c does o cost x → Forgot
  turns_forgot c does o cost forgets h = by_node (slice_get w.controllers c.0) refl h
    where
      by_node : (n : Option ControllerNode) → slice_get w.controllers c.0 ≡ n → ControllerDoesAt n w c does o cost x → Forgot
      by_node None at h = absurd h
      by_node (Some n) at is = one_forgot c (does n) (ap (λ (z : Next). z.0.controllers) is) (forgets n at)

  handles_forgot : (m : ℕ) (c : ControllerId) (cost : Cost) → is_controller_up w c ≡ true → Delivers w m c cost x → Forgot
  handles_forgot m c cost up h = by_found (request_at w m) (slice_get w.controllers c.0) refl h
    where
      by_answer : (z : State) (what : Handled) → x ≡ handed z cost what → x.0.controllers ≡ z.controllers
      by_answer z (handled.Reply y) is = ap (λ (n : Next). n.0.controllers) is
      by_answer z (handled.Job j) is = ap (λ (n : Next). n.0.controllers) is

      by_found : (o : Option Request) (n : Option ControllerNode) → slice_get w.controllers c.0 ≡ n → DeliversAt o n w c cost x → Forgot
      by_found None n there h = absurd h
      by_found (Some r) None there h = absurd h
      by_found (Some r) (Some n) there (new, what, store, deep, handles, is) =
          let m : ControllerNode = record n { controller = new } in
          one_forgot c m (by_answer (after_step w c n new store deep) what is) (stays_up n m c.0 (node_up w c n there up) refl)

  works_forgot : (c : ControllerId) (j : ℕ) (cost : Cost) → is_controller_up w c ≡ true → JobSteps w c j cost x → Forgot
  works_forgot c j cost up h = by_node (slice_get w.controllers c.0) refl h
    where
      by_reply : (z : State) (step : JobStep) (o : Option Reply) → x ≡ stepped_by z cost step o → x.0.controllers ≡ z.controllers
      by_reply z step None is = ap (λ (n : Next). n.0.controllers) is
      by_reply z step (Some y) is = ap (λ (n : Next). n.0.controllers) is

      by_node : (n : Option ControllerNode) → slice_get w.controllers c.0 ≡ n → JobStepsAt n w c j cost x → Forgot
      by_node None at h = absurd h
      by_node (Some n) at (new, step, store, deep, works, is) =
          let m : ControllerNode = record n { controller = new } in
          one_forgot c m (by_reply (noted_set (after_step w c n new store deep) cost (length w.store.writes)) step step.reply is)
          (stays_up n m c.0 (node_up w c n at up) refl)

  chores_forgot : (c : ControllerId) (p : Partition) (chore : Chore) (cost : Cost) → Keeps w c p chore cost x → Forgot
  chores_forgot c p chore cost h = by_found (slice_get w.controllers c.0) refl (upkeep_at w c p) h
    where
      by_found : (n : Option ControllerNode) → slice_get w.controllers c.0 ≡ n → (u : Option Upkeep) → KeepsAt n u w c p chore cost x → Forgot
      by_found None at u h = absurd h
      by_found (Some n) at None h = absurd h
      by_found (Some n) at (Some old) (new, store, steps, is) =
          one_forgot c (record n { upkeep = slice_set n.upkeep p.0 new }) (ap (λ (z : State). z.controllers) is) (all c.0 n at)

  goes_forgot : (y : Way) (cost : Cost) → Forgets w y → IsFree cost y → Leaving w cost y → Goes w y cost x → Forgot
  goes_forgot (way.turns c does told) cost forgets free left h = turns_forgot c does told cost forgets h
  goes_forgot (way.handles m c) cost forgets free left h = handles_forgot m c cost forgets h
  goes_forgot (way.works c j) cost forgets free left h = works_forgot c j cost forgets h
  goes_forgot (way.keeps c p chore) cost forgets free left h = chores_forgot c p chore cost h
  goes_forgot y cost forgets free left h = let k : Spares w cost x.0 = spares w cost x y tt free left h in subst AllForgot (sym k.controllers) all

event_forgets : (w : State) (e : Event) (cost : Cost) → due_at w e ≡ Ok cost → Forgets w (way_of w e)
event_forgets w (event.Lead c on) cost due = λ n there down. absurd (true≢false (sym (node_up w c n there (lead_up w c cost due)) ∙ down))
event_forgets w (event.CrashController c) cost due = λ n there down. refl
event_forgets w (event.RestartController c) cost due = λ n there down. absurd (true≢false down)
event_forgets w (event.Deliver m c) cost due = deliver_up w m c cost due
event_forgets w (event.Job c j) cost due = job_up w c j cost due
event_forgets w e cost due = tt

-- ---- a run

turn_forgets : (w : State) (turn : Turn) (new : State) → AllForgot w.controllers → TurnsTo w turn new → AllForgot new.controllers
turn_forgets w (happens e o) new all (fits, (cost, due, h)) =
    goes_forgot w (new, o) all (way_of w e) cost (event_forgets w e cost due) (is_free w e cost due) (leaving w e cost due) h
turn_forgets w passes new all (cost, due, is) = subst AllForgot (sym (ap (λ (x : State). x.controllers) is)) all

leads_forget : (from : State) (turns : List Turn) (to : State) → AllForgot from.controllers → Leads from turns to → AllForgot to.controllers
leads_forget from [] to all same = subst AllForgot (sym (ap (λ (x : State). x.controllers) same)) all
leads_forget from (turn ∷ turns) to all (next, t, rest) = leads_forget next turns to (turn_forgets from turn next all t) rest

fresh_forgot : (setup : Setup) (n : ℕ) → AllForgot (fresh_controllers setup n)
fresh_forgot setup zero = at_none HasForgotten
fresh_forgot setup (suc n) =
    at_push HasForgotten (fresh_controllers setup n) (fresh_controller setup n) (λ down. absurd (true≢false down)) (fresh_forgot setup n)

pub runs_forget : (setup : Setup) (turns : List Turn) (w : State) → Runs setup turns w → AllForgot w.controllers
runs_forget setup turns w run = leads_forget (start setup) turns w (fresh_forgot setup setup.controllers) run
