-- An open job stays as it is through each event that isn't its own step.
use Rattle.std.proofs.Common.{◌≡◌, ℕ, Bool, true, false, List, Option, Some, None, refl, sym, ◌∙◌, ap, slice_get, arith, ⊎_elim}
use Rattle.std.specs.Prelude.{slice_set}
use Rattle.std.proofs.lemmas.Bool.{cases_eq}
use Rattle.std.proofs.lemmas.List.{get_or-set_same, get_or-set_other, length-set}
use Rattle.std.proofs.lemmas.Option.{get_or_from_slice_get, none-some, same_Some, slice_get-get_or, slice_get_within}
use Rattle.rt_base.specs.declared.numbers.ControllerId.{ControllerId}
use Rattle.rt_base.specs.declared.numbers.Partition.{Partition}
use Rattle.rt_events.specs.declared.outcome.Outcome.{Outcome}
use Rattle.rt_controller.specs.declared.handled.Handled.{Handled}
use Rattle.rt_controller.specs.declared.handled.Handled.TheVariants as handled
use Rattle.rt_commit.specs.declared.job.Job.{Job}
use Rattle.rt_controller.specs.Controller.{believing}
use Rattle.rt_controller.specs.Right.{job_of}
use Rattle.rt_controller.proofs.CallsOver.{handles_over}
use Rattle.rt_model.specs.declared.request.Request.{Request}
use Rattle.rt_state.specs.Applying.{Next}
use Rattle.rt_safety.specs.CommitRun.{job_in, open_job}
use Rattle.rt_state.specs.Finding.{request_at}
use Rattle.rt_state.specs.IsSafe.{past_of}
use Rattle.rt_state.specs.IsSafeWorld.{IsSafeWorld}
use Rattle.rt_state.specs.Messages.{Delivers, DeliversAt, handed}
use Rattle.rt_state.specs.Nodes.{ControllerDoes, ControllerDoesAt}
use Rattle.rt_nodes.specs.declared.chore.Chore.{Chore}
use Rattle.rt_state.specs.Repairs.{Keeps, KeepsAt, upkeep_at}
use Rattle.rt_nodes.specs.declared.controller_node.ControllerNode.{ControllerNode}
use Rattle.rt_state.specs.declared.cost.Cost.{Cost}
use Rattle.rt_state.specs.declared.state.State.{State}
use Rattle.rt_nodes.specs.declared.upkeep.Upkeep.{Upkeep}
use Rattle.rt_state.proofs.Bounds.{few_writes}
use Rattle.rt_world.proofs.KeepsMessages.{request_sent}
use Rattle.rt_safety.proofs.Spares.{spares}
use Rattle.rt_safety.proofs.Ways.{IsFree, Leaving}
use Rattle.rt_world.specs.Way.{Goes, Way}
use Rattle.rt_world.specs.Way as way

-- ---- slots of a list

pub own_slot : {X : Type 0} (xs : List X) (i : ℕ) (old new : X) → slice_get xs i ≡ Some old → slice_get (slice_set xs i new) i ≡ Some new
own_slot xs i old new at =
    let lt = slice_get_within xs i old at in
    slice_get-get_or (slice_set xs i new) i new (omega (arith, lt, length-set xs i new)) ∙ ap Some (get_or-set_same xs i new new lt)

pub other_slot : {X : Type 0} (xs : List X) (i j : ℕ) (new x : X) → (j ≡ i → ⊥) → slice_get xs j ≡ Some x → slice_get (slice_set xs i new) j ≡ Some x
other_slot xs i j new x apart at =
    slice_get-get_or (slice_set xs i new) j x (omega (arith, slice_get_within xs j x at, length-set xs i new))
    ∙ ap Some (get_or-set_other xs i j new x apart ∙ get_or_from_slice_get xs j x x at)

-- ---- a controller in its place

abbrev pub Stays : State → State → ControllerId → ℕ → Job → Type 0
Stays w y c n j = open_job w c n ≡ Some j → open_job y c n ≡ Some j

pub controllers_stay : (w y : State) (c : ControllerId) (n : ℕ) (j : Job) → y.controllers ≡ w.controllers → Stays w y c n j
controllers_stay w y c n j same e = ap (λ (cs : List ControllerNode). job_in (slice_get cs c.0) n) same ∙ e

pub slot_stays : (w y : State) (c d : ControllerId) (n : ℕ) (j : Job) (old new : ControllerNode) → slice_get w.controllers d.0 ≡ Some old
    → y.controllers ≡ slice_set w.controllers d.0 new → (c.0 ≡ d.0 → job_of old.controller n ≡ Some j → job_of new.controller n ≡ Some j)
    → Stays w y c n j
slot_stays w y c d n j old new found same keeps e = by_slot (slice_get w.controllers c.0) refl e
  where
    cs : List ControllerNode
    cs = slice_set w.controllers d.0 new

    here : (node : ControllerNode) → slice_get w.controllers c.0 ≡ Some node → job_of node.controller n ≡ Some j → c.0 ≡ d.0 → job_in (slice_get cs c.0) n ≡ Some j
    here node at f i =
        let is : node ≡ old = same_Some node old (sym at ∙ ap (slice_get w.controllers) i ∙ found) in
        ap (λ k. job_in (slice_get cs k) n) i ∙ ap (λ (o : Option ControllerNode). job_in o n) (own_slot w.controllers d.0 old new found)
        ∙ keeps i (ap (λ (x : ControllerNode). job_of x.controller n) (sym is) ∙ f)

    by_slot : (o : Option ControllerNode) → slice_get w.controllers c.0 ≡ o → job_in o n ≡ Some j → job_in (slice_get y.controllers c.0) n ≡ Some j
    by_slot None at f = absurd (none-some j f)
    by_slot (Some node) at f =
        ap (λ (l : List ControllerNode). job_in (slice_get l c.0) n) same
        ∙ ⊎_elim (here node at f)
        (λ apart. ap (λ (o : Option ControllerNode). job_in o n) (other_slot w.controllers d.0 c.0 new node apart at) ∙ f) (cases_eq c.0 d.0)

-- ---- ways of controllers

abbrev node_stays : ℕ → Job → ControllerNode → ControllerNode → Type 0
node_stays n j old new = job_of old.controller n ≡ Some j → job_of new.controller n ≡ Some j

pub controller_does_stays : (w : State) (c d : ControllerId) (n : ℕ) (j : Job) (does : ControllerNode → ControllerNode) (outcome : Outcome) (cost : Cost) (x : Next)
    → ((old : ControllerNode) → c.0 ≡ d.0 → node_stays n j old (does old)) → ControllerDoes w d does outcome cost x → Stays w x.0 c n j
controller_does_stays w c d n j does outcome cost x keeps h = by_node (slice_get w.controllers d.0) refl h
  where
    by_node : (o : Option ControllerNode) → slice_get w.controllers d.0 ≡ o → ControllerDoesAt o w d does outcome cost x → Stays w x.0 c n j
    by_node None at h = absurd h
    by_node (Some old) at h = slot_stays w x.0 c d n j old (does old) at (ap (λ (z : Next). z.0.controllers) h) (keeps old)

pub believing_stays : (old : ControllerNode) (on : Bool) (n : ℕ) (j : Job) → node_stays n j old (record old { controller = believing old.controller on })
believing_stays old true n j e = e
believing_stays old false n j e = e

pub chores_stay : (w : State) (c d : ControllerId) (p : Partition) (chore : Chore) (n : ℕ) (j : Job) (cost : Cost) (x : Next) → Keeps w d p chore cost x → Stays w x.0 c n j
chores_stay w c d p chore n j cost x h = by_node (slice_get w.controllers d.0) (upkeep_at w d p) refl h
  where
    by_node : (o : Option ControllerNode) (u : Option Upkeep) → slice_get w.controllers d.0 ≡ o → KeepsAt o u w d p chore cost x → Stays w x.0 c n j
    by_node None u at h = absurd h
    by_node (Some node) None at h = absurd h
    by_node (Some node) (Some u) at (new, store, step, is) = slot_stays w x.0 c d n j node _ at (ap (λ (z : State). z.controllers) is) (λ i e. e)

pub handed_same : (w : State) (cost : Cost) (what : Handled) → (handed w cost what).0.controllers ≡ w.controllers
handed_same w cost (handled.Reply r) = refl
handed_same w cost (handled.Job j) = refl

pub delivers_stay : (w : State) (c d : ControllerId) (m n : ℕ) (j : Job) (cost : Cost) (x : Next) → IsSafeWorld w → Delivers w m d cost x → Stays w x.0 c n j
delivers_stay w c d m n j cost x s h = by_node (request_at w m) (slice_get w.controllers d.0) refl refl h
  where
    by_node : (o : Option Request) (p : Option ControllerNode) → request_at w m ≡ o → slice_get w.controllers d.0 ≡ p → DeliversAt o p w d cost x → Stays w x.0 c n j
    by_node None p asks at h = absurd h
    by_node (Some q) None asks at h = absurd h
    by_node (Some q) (Some node) asks at (new, what, store, deep, handles, is) =
        let k = handles_over w.setup (past_of w) w.store store w.deep deep node.controller new q w.moment what s.safe.setup s.safe.past (few_writes w s) refl refl
        (request_sent w m q asks) (s.safe.controllers d.0 node at).over handles in
        slot_stays w x.0 c d n j node (record node { controller = new }) at
        (ap (λ (z : Next). z.0.controllers) is ∙ handed_same _ cost what) (λ i e. k.stay n j e)

-- ---- any way but a step of a job

-- what a way owes to the job of a number at a controller, that it stays there
abbrev pub KeepsJob : Way → ControllerId → ℕ → Job → Type 0
KeepsJob (way.turns d does told) c n j = (old : ControllerNode) → c.0 ≡ d.0 → node_stays n j old (does old)
KeepsJob (way.works d m) c n j = ⊥
KeepsJob other c n j = Unit {0}

pub goes_stays : (w : State) (y : Way) (c : ControllerId) (n : ℕ) (j : Job) (cost : Cost) (x : Next) → IsSafeWorld w → KeepsJob y c n j → IsFree cost y → Leaving w cost y → Goes w y cost x
    → Stays w x.0 c n j
goes_stays w (way.turns d does told) c n j cost x s keeps free left h = controller_does_stays w c d n j does told cost x keeps h
goes_stays w (way.handles m d) c n j cost x s keeps free left h = delivers_stay w c d m n j cost x s h
goes_stays w (way.works d m) c n j cost x s keeps free left h = absurd keeps
goes_stays w (way.keeps d p chore) c n j cost x s keeps free left h = chores_stay w c d p chore n j cost x h
goes_stays w y c n j cost x s keeps free left h = controllers_stay w x.0 c n j (spares w cost x y tt free left h).controllers
