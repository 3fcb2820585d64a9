-- A replica of a segment can come to each offset that a controller's machine of the segment keeps, turn by turn.
use Rattle.std.proofs.Common.{◌≡◌, ℕ, Bool, true, false, List, Option, Some, None, refl, ap, subst, sym, length, slice_get}
use Rattle.std.specs.Prelude.{slice_set, All}
use Rattle.std.proofs.lemmas.List.Elements.{All-filter, All-nil, All-weaker}
use Rattle.rt_base.specs.declared.numbers.ControllerId.{ControllerId}
use Rattle.rt_base.specs.declared.numbers.Partition.{Partition}
use Rattle.rt_controller.specs.Answers.{Handling}
use Rattle.rt_controller.specs.Controller.{believing, is_committing}
use Rattle.rt_controller.specs.declared.handled.Handled.{Handled}
use Rattle.rt_controller.specs.declared.handled.Handled.TheVariants as handled
use Rattle.rt_controller.specs.declared.segment_machine.SegmentMachine.{SegmentMachine}
use Rattle.rt_controller.proofs.Telling.{told_request}
use Rattle.rt_deep.specs.Memory.{means as deep_means}
use Rattle.rt_events.specs.declared.event.Event.{Event}
use Rattle.rt_events.specs.declared.event.Event.TheVariants as event
use Rattle.rt_events.specs.declared.outcome.Outcome.{Outcome}
use Rattle.rt_lists.specs.Members.{Has}
use Rattle.rt_model.specs.declared.job_step.JobStep.{JobStep}
use Rattle.rt_model.specs.declared.reply.Reply.{Reply}
use Rattle.rt_model.specs.declared.request.Request.{Request}
use Rattle.rt_model.specs.declared.sent.Sent.TheVariants as sent
use Rattle.rt_model.specs.declared.setup.Setup.{Setup}
use Rattle.rt_nodes.specs.declared.chore.Chore.{Chore}
use Rattle.rt_nodes.specs.declared.controller_node.ControllerNode.{ControllerNode}
use Rattle.rt_nodes.specs.declared.upkeep.Upkeep.{Upkeep}
use Rattle.rt_past.specs.Past.{Grows, Past}
use Rattle.rt_safety.proofs.Spares.{spares, Spares}
use Rattle.rt_safety.proofs.Ways.{is_free, leaving, IsFree, Leaving}
use Rattle.rt_safety.specs.Runs.{happens, passes, Turn, TurnsTo}
use Rattle.rt_state.specs.Applying.{Next}
use Rattle.rt_state.specs.Finding.{request_at}
use Rattle.rt_state.specs.IsSafe.{past_of}
use Rattle.rt_state.specs.IsSafeWorld.{IsSafeWorld}
use Rattle.rt_state.specs.Jobs.{stepped_by, JobSteps, JobStepsAt, noted_set}
use Rattle.rt_state.specs.Messages.{after_step, handed, Delivers, DeliversAt}
use Rattle.rt_state.specs.Nodes.{ControllerDoes, ControllerDoesAt}
use Rattle.rt_state.specs.Places.{AreAt}
use Rattle.rt_state.specs.Repairs.{upkeep_at, Keeps, KeepsAt}
use Rattle.rt_state.specs.declared.cost.Cost.{Cost}
use Rattle.rt_state.specs.declared.state.State.{State}
use Rattle.rt_store.specs.Memory.{means}
use Rattle.rt_world.proofs.KeepsMessages.{request_sent}
use Rattle.rt_world.proofs.Places.{at_set}
use Rattle.rt_world.specs.Step.{way_of}
use Rattle.rt_world.specs.Way.{Goes, Way}
use Rattle.rt_world.specs.Way as way
use Rattle.rt_heal.specs.Reachable.{ComesTo}
use Rattle.rt_heal.proofs.Answered.{request_answers}
use Rattle.rt_heal.proofs.Machines.{machine_grows, works_left, MachineReaches}

-- a replica can come to the offset of each request
abbrev pub AreAskedSo : Setup → Past → Type 0
AreAskedSo setup a = (q : Request) → Has a.sent (sent.Request q) → ComesTo setup a q.partition q.sequence q.offset

-- and to what each machine of a controller keeps
abbrev pub NodeReaches : Setup → Past → ℕ → ControllerNode → Type 0
NodeReaches setup a c n = All (MachineReaches setup a) n.controller.machines

abbrev pub AllNodesReach : Setup → Past → List ControllerNode → Type 0
AllNodesReach setup a ns = AreAt (NodeReaches setup a) ns

pub nodes_grow : (setup : Setup) (a b : Past) (ns : List ControllerNode) → Grows a b → AllNodesReach setup a ns → AllNodesReach setup b ns
nodes_grow setup a b ns g all c n there =
    All-weaker (MachineReaches setup a) (MachineReaches setup b) (λ m. machine_grows setup a b m g) n.controller.machines (all c n there)

-- a controller's own step makes no machine
abbrev KeepsMachines : Setup → Past → Way → Type 0
KeepsMachines setup a (way.turns c does told) = (n : ControllerNode) → NodeReaches setup a c.0 n → NodeReaches setup a c.0 (does n)
KeepsMachines setup a other = Unit {0}

module _ (w : State) (x : Next) (s : IsSafeWorld w) (asked : AreAskedSo w.setup (past_of w)) (all : AllNodesReach w.setup (past_of w) w.controllers) where
  abbrev Reach : Type 0
  Reach = AllNodesReach w.setup (past_of w) x.0.controllers

  still_reach : x.0.controllers ≡ w.controllers → Reach
  still_reach e = subst (AllNodesReach w.setup (past_of w)) (sym e) all

  one_reaches : (c : ControllerId) (new : ControllerNode) → x.0.controllers ≡ slice_set w.controllers c.0 new → NodeReaches w.setup (past_of w) c.0 new → Reach
  one_reaches c new put own =
      subst (AllNodesReach w.setup (past_of w)) (sym put) (at_set (NodeReaches w.setup (past_of w)) w.controllers c.0 new own all)

  turns_reach : (c : ControllerId) (does : ControllerNode → ControllerNode) (o : Outcome) (cost : Cost) → KeepsMachines w.setup (past_of w) (way.turns c does o)
      → ControllerDoes w c does o cost x → Reach
  turns_reach c does o cost keeps h = by_node (slice_get w.controllers c.0) refl h
    where
      by_node : (n : Option ControllerNode) → slice_get w.controllers c.0 ≡ n → ControllerDoesAt n w c does o cost x → Reach
      by_node None at h = absurd h
      by_node (Some n) at is = one_reaches c (does n) (ap (λ (z : Next). z.0.controllers) is) (keeps n (all c.0 n at))

  handles_reach : (m : ℕ) (c : ControllerId) (cost : Cost) → Delivers w m c cost x → Reach
  handles_reach m c cost h = by_found (request_at w m) refl (slice_get w.controllers c.0) refl h
    where
      by_answer : (z : State) (what : Handled) → x ≡ handed z cost what → x.0.controllers ≡ z.controllers
      by_answer z (handled.Reply y) is = ap (λ (n : Next). n.0.controllers) is
      by_answer z (handled.Job j) is = ap (λ (n : Next). n.0.controllers) is

      by_found : (o : Option Request) → request_at w m ≡ o → (n : Option ControllerNode) → slice_get w.controllers c.0 ≡ n → DeliversAt o n w c cost x → Reach
      by_found None at n there h = absurd h
      by_found (Some r) at None there h = absurd h
      by_found (Some r) at (Some n) there (new, what, store, deep, handles, is) =
          let y : Handling = record { controller = new; handled = what } in
          let left = told_request w.store store w.deep deep n.controller r w.moment y handles in
          let has = request_sent w m r at in
          let right = request_answers w.setup (past_of w) r (s.safe.past.requests r has) (asked r has) n.controller (s.safe.controllers c.0 n there).over.assigned
          (all c.0 n there) w.moment w.store w.deep y refl left.made in
          one_reaches c (record n { controller = new }) (by_answer (after_step w c n new store deep) what is) right.1

  works_reach : (c : ControllerId) (j : ℕ) (cost : Cost) → JobSteps w c j cost x → Reach
  works_reach c j cost h = by_node (slice_get w.controllers c.0) refl h
    where
      by_reply : (z : State) (step : JobStep) (o : Option Reply) → x ≡ stepped_by z cost step o → x.0.controllers ≡ z.controllers
      by_reply z step None is = ap (λ (n : Next). n.0.controllers) is
      by_reply z step (Some y) is = ap (λ (n : Next). n.0.controllers) is

      by_node : (n : Option ControllerNode) → slice_get w.controllers c.0 ≡ n → JobStepsAt n w c j cost x → Reach
      by_node None at h = absurd h
      by_node (Some n) at (new, step, store, deep, works, is) =
          one_reaches c (record n { controller = new })
          (by_reply (noted_set (after_step w c n new store deep) cost (length w.store.writes)) step step.reply is)
          (works_left (MachineReaches w.setup (past_of w)) (means w.store) (means store) (deep_means w.deep) (deep_means deep) n.controller w.moment (all c.0 n at) j
          new step works)

  chores_reach : (c : ControllerId) (p : Partition) (chore : Chore) (cost : Cost) → Keeps w c p chore cost x → Reach
  chores_reach c p chore cost h = by_found (slice_get w.controllers c.0) refl (upkeep_at w c p) h
    where
      by_found : (n : Option ControllerNode) → slice_get w.controllers c.0 ≡ n → (u : Option Upkeep) → KeepsAt n u w c p chore cost x → Reach
      by_found None at u h = absurd h
      by_found (Some n) at None h = absurd h
      by_found (Some n) at (Some old) (new, store, steps, is) =
          one_reaches c (record n { upkeep = slice_set n.upkeep p.0 new }) (ap (λ (z : State). z.controllers) is) (all c.0 n at)

  goes_reach : (y : Way) (cost : Cost) → KeepsMachines w.setup (past_of w) y → IsFree cost y → Leaving w cost y → Goes w y cost x → Reach
  goes_reach (way.turns c does told) cost keeps free left h = turns_reach c does told cost keeps h
  goes_reach (way.handles m c) cost keeps free left h = handles_reach m c cost h
  goes_reach (way.works c j) cost keeps free left h = works_reach c j cost h
  goes_reach (way.keeps c p chore) cost keeps free left h = chores_reach c p chore cost h
  goes_reach y cost keeps free left h = let k : Spares w cost x.0 = spares w cost x y tt free left h in still_reach k.controllers

-- ---- a turn

believing_keeps : (setup : Setup) (a : Past) (c : ℕ) (on : Bool) (n : ControllerNode) → NodeReaches setup a c n
    → All (MachineReaches setup a) (believing n.controller on).machines
believing_keeps setup a c true n k = k
believing_keeps setup a c false n k =
    All-filter (λ (m : SegmentMachine). is_committing m.machine.state) (MachineReaches setup a) n.controller.machines k

event_keeps : (w : State) (e : Event) → KeepsMachines w.setup (past_of w) (way_of w e)
event_keeps w (event.Lead c on) = λ n k. believing_keeps w.setup (past_of w) c.0 on n k
event_keeps w (event.CrashController c) = λ n k. All-nil (MachineReaches w.setup (past_of w))
event_keeps w (event.RestartController c) = λ n k. k
event_keeps w e = tt

pub turn_reach : (w : State) (turn : Turn) (new : State) → IsSafeWorld w → AreAskedSo w.setup (past_of w) → AllNodesReach w.setup (past_of w) w.controllers
    → TurnsTo w turn new → AllNodesReach w.setup (past_of w) new.controllers
turn_reach w (happens e o) new s asked all (fits, (cost, due, h)) =
    goes_reach w (new, o) s asked all (way_of w e) cost (event_keeps w e) (is_free w e cost due) (leaving w e cost due) h
turn_reach w passes new s asked all (cost, due, is) =
    subst (AllNodesReach w.setup (past_of w)) (sym (ap (λ (x : State). x.controllers) is)) all
