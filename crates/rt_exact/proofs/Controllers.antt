-- Each step of a controller that may call the stores has one outcome.
use Rattle.std.proofs.Common.{◌≡◌, ℕ, Option, Some, None, sym, ◌∙◌, ap, slice_get, length}
use Rattle.std.proofs.lemmas.Option.{same_Some}
use Rattle.rt_base.specs.declared.numbers.ControllerId.{ControllerId}
use Rattle.rt_base.specs.declared.numbers.Partition.{Partition}
use Rattle.rt_controller.specs.Answers.{Handling}
use Rattle.rt_controller.specs.Working.{Working}
use Rattle.rt_controller.specs.Controller.{Controlling}
use Rattle.rt_controller.specs.declared.handled.Handled.{Handled}
use Rattle.rt_controller.proofs.Telling.{told_request, told_work}
use Rattle.rt_events.specs.declared.outcome.Outcome.{Outcome}
use Rattle.rt_events.specs.declared.outcome.Outcome.TheVariants as told
use Rattle.rt_model.specs.declared.request.Request.{Request}
use Rattle.rt_repair.specs.Repairing.{Repairing}
use Rattle.rt_repair.specs.RepairSteps as of_repair
use Rattle.rt_repair.specs.RetireSteps as of_retire
use Rattle.rt_repair.specs.Retirement.{Retirement}
use Rattle.rt_repair.proofs.Telling.{told_repair, told_retire}
use Rattle.rt_state.specs.Finding.{request_at}
use Rattle.rt_state.specs.Jobs.{JobSteps, JobStepsAt, noted_set, stepped}
use Rattle.rt_state.specs.Messages.{Delivers, DeliversAt, after_step, handed}
use Rattle.rt_nodes.specs.declared.chore.Chore.{Chore}
use Rattle.rt_nodes.specs.declared.chore.Chore.TheVariants.{Repair, Retire}
use Rattle.rt_state.specs.Repairs.{Keeps, KeepsAt, after_upkeep, begun, going_on, retiring, retiring_on, upkeep_at, UpkeepSteps}
use Rattle.rt_store.specs.Meaning.{Told}
use Rattle.rt_nodes.specs.declared.controller_node.ControllerNode.{ControllerNode}
use Rattle.rt_state.specs.declared.state.State.{State}
use Rattle.rt_nodes.specs.declared.upkeep.Upkeep.{Upkeep}
use Rattle.rt_exact.proofs.Ones.{IsOne}

-- ---- a request

handling : Controlling → Handled → Handling
handling c what = record { controller = c; handled = what }

pub delivers_one : (w : State) (m : ℕ) (c : ControllerId) → IsOne (Delivers w m c)
delivers_one w m c cost x y h k = by_request (request_at w m) (slice_get w.controllers c.0) h k
  where
    by_request : (q : Option Request) (o : Option ControllerNode) → DeliversAt q o w c cost x → DeliversAt q o w c cost y → x ≡ y
    by_request None o h k = absurd h
    by_request (Some q) None h k = absurd h
    by_request (Some q) (Some node) (a, did, s, d, makes, is) (b, did', u, e, makes', is') =
        let left = told_request w.store s w.deep d node.controller q w.moment (record { controller = a; handled = did }) makes in
        let right = told_request w.store u w.deep e node.controller q w.moment (record { controller = b; handled = did' }) makes' in
        let one : Handling = record { controller = a; handled = did } in
        let other : Handling = record { controller = b; handled = did' } in
        let made : one ≡ other = same_Some one other (sym left.made ∙ right.made) in
        let store = left.store ∙ sym right.store in
        let deep = left.deep ∙ sym right.deep in
        is ∙ (λ t. handed (after_step w c node (made t).controller (store t) (deep t)) cost (made t).handled) ∙ sym is'

-- ---- a step of a job

pub jobs_one : (w : State) (c : ControllerId) (j : ℕ) → IsOne (JobSteps w c j)
jobs_one w c j cost x y h k = by_node (slice_get w.controllers c.0) h k
  where
    by_node : (o : Option ControllerNode) → JobStepsAt o w c j cost x → JobStepsAt o w c j cost y → x ≡ y
    by_node None h k = absurd h
    by_node (Some node) (a, step, s, d, makes, is) (b, step', u, e, makes', is') =
        let one : Working = record { controller = a; step = step } in
        let other : Working = record { controller = b; step = step' } in
        let left = told_work w.store s w.deep d node.controller j w.moment one makes in
        let right = told_work w.store u w.deep e node.controller j w.moment other makes' in
        let made : one ≡ other = same_Some one other (sym left.made ∙ right.made) in
        let store = left.store ∙ sym right.store in
        let deep = left.deep ∙ sym right.deep in
        is ∙ (λ t. stepped (noted_set (after_step w c node (made t).controller (store t) (deep t)) cost (length w.store.writes)) cost (made t).step) ∙ sym is'

-- ---- what a controller does for a partition on its own

-- what is left of what was under way, of the store, and what is told
record IsLeft (u v : Upkeep) (s t : Told) (o q : Outcome) : Type 0 where
  upkeep : u ≡ v
  store : s ≡ t
  tells : o ≡ q

upkeep_one : (w : State) (p : Partition) (chore : Chore) (old new new' : Upkeep) (s u : Told) (o q : Outcome) → UpkeepSteps chore w.setup p w.moment w.store s old new o
    → UpkeepSteps chore w.setup p w.moment w.store u old new' q → IsLeft new new' s u o q
upkeep_one w p Repair old new new' s u o q (did, (r, steps, is), e) (did', (r', steps', is'), e') =
    let one : of_repair.Stepped = record { repair = r; step = did } in
    let other : of_repair.Stepped = record { repair = r'; step = did' } in
    let left = told_repair w.store s (begun w.setup p old.repair) w.moment one steps in
    let right = told_repair w.store u (begun w.setup p old.repair) w.moment other steps' in
    let made : one ≡ other = same_Some one other (sym left.1 ∙ right.1) in
    let at : Repairing → Upkeep = λ z. record old { repair = going_on z } in
    record {
      upkeep = is ∙ ap (λ (z : of_repair.Stepped). at z.repair) made ∙ sym is';
      store = left.0 ∙ sym right.0;
      tells = e ∙ ap (λ (z : of_repair.Stepped). told.Repaired z.step) made ∙ sym e';
    }
upkeep_one w p Retire old new new' s u o q (did, (r, steps, is), e) (did', (r', steps', is'), e') =
    let one : of_retire.Stepped = record { retire = r; step = did } in
    let other : of_retire.Stepped = record { retire = r'; step = did' } in
    let left = told_retire w.store s (retiring w.setup p old.retirement) w.moment one steps in
    let right = told_retire w.store u (retiring w.setup p old.retirement) w.moment other steps' in
    let made : one ≡ other = same_Some one other (sym left.1 ∙ right.1) in
    let at : Retirement → Upkeep = λ z. record old { retirement = retiring_on z } in
    record {
      upkeep = is ∙ ap (λ (z : of_retire.Stepped). at z.retire) made ∙ sym is';
      store = left.0 ∙ sym right.0;
      tells = e ∙ ap (λ (z : of_retire.Stepped). told.Retired z.step) made ∙ sym e';
    }

pub chores_one : (w : State) (c : ControllerId) (p : Partition) (chore : Chore) → IsOne (Keeps w c p chore)
chores_one w c p chore cost x y h k = by_node (slice_get w.controllers c.0) (upkeep_at w c p) h k
  where
    by_node : (o : Option ControllerNode) (v : Option Upkeep) → KeepsAt o v w c p chore cost x → KeepsAt o v w c p chore cost y → x ≡ y
    by_node None v h k = absurd h
    by_node (Some node) None h k = absurd h
    by_node (Some node) (Some old) (new, s, steps, is) (new', u, steps', is') =
        let left = upkeep_one w p chore old new new' s u x.1 y.1 steps steps' in
        let state : x.0 ≡ y.0 = is ∙ (λ t. after_upkeep w c p node (left.upkeep t) (left.store t) cost) ∙ sym is' in
        (λ t. (state t, left.tells t))
